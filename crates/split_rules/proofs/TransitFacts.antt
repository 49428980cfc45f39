-- The transit of the arc between two stages, found by a pass over the arcs.
use Rattle.std.proofs.Common.{◌≡◌, ℕ, ◌<◌, List, length, Some, None, ap, sym, ◌∙◌}
use Rattle.service_model.specs.declared.stage.SupplyArc.{SupplyArc}
use Rattle.service_model.specs.Net.{Net, arc_in}
use Rattle.service_model.specs.Networks.{IsNetwork}
use Rattle.service_model.specs.Tables.{transit_in}
use Rattle.service_model.proofs.ArcFacts.{transit_in-arc, supplies_from_leads, leads_from_supplies}
use Rattle.service_model.proofs.NetworkFacts.{IsNetwork-HasEnds}
use Rattle.cert_laws.proofs.SplitFacts.{ends_there}
use Rattle.split_rules.specs.Arcs.{IsTransit}

-- arc a leads from stage i to stage j
abbrev pub Joins : List SupplyArc → ℕ → ℕ → ℕ → Type 0
Joins arcs i j a = ((arc_in arcs a).supplier ≡ i) × ((arc_in arcs a).customer ≡ j)

pub transit_of : (n : Net) (i j a : ℕ) → IsNetwork n → a < length n.arcs → Joins n.arcs i j a → transit_in n.arcs i j ≡ (arc_in n.arcs a).transit
transit_of n i j a valid within (from, to) =
    ap (λ k. transit_in n.arcs k j) (sym from)
    ∙ ap (λ k. transit_in n.arcs (arc_in n.arcs a).supplier k) (sym to)
    ∙ transit_in-arc n a valid within

pub found_transit : (n : Net) (i j a : ℕ) → IsNetwork n → a < length n.arcs → Joins n.arcs i j a → IsTransit n.arcs i j (Some (arc_in n.arcs a).transit)
found_transit n i j a valid within joins = (supplies_from_leads n.arcs i j (a, within, joins.0, joins.1), sym (transit_of n i j a valid within joins))

pub no_transit : (n : Net) (i j : ℕ) → ((a : ℕ) → a < length n.arcs → ¬ Joins n.arcs i j a) → IsTransit n.arcs i j None
no_transit n i j none supplies = let (a, within, from, to) = leads_from_supplies n.arcs i j supplies in none a within (from, to)

pub joined_ends : (n : Net) (i j a : ℕ) → IsNetwork n → a < length n.arcs → Joins n.arcs i j a → (i < length n.stages) × (j < length n.stages)
joined_ends n i j a valid within joins =
    ends_there n i j (IsNetwork-HasEnds n valid) (supplies_from_leads n.arcs i j (a, within, joins.0, joins.1))
