-- Arcs that lead on in the stage file make no cycle.
use Rattle.std.proofs.Common.{ℕ, zero, suc, ◌+◌, ◌<◌, ◌≤◌, List, length, map, ap, sym, ◌∙◌, subst, arith}
use Rattle.std.specs.Prelude.{All}
use Rattle.std.proofs.lemmas.List.{length-map, get_or-map}
use Rattle.service_model.specs.declared.stage.SupplyArc.{SupplyArc}
use Rattle.service_model.specs.Net.{no_arc}
use Rattle.service_model.specs.Walks.{Leads, Walk}
use Rattle.stage_file.specs.declared.arcs.ArcRow.{ArcRow}
use Rattle.demand_tables.specs.DemandFaults.{supply_arc}
use Rattle.demand_tables.proofs.ArcFacts.{no_arc_row}
use Rattle.demand_tables.proofs.NetFacts.{read_is_demand}
use Rattle.demand_tables.proofs.tests.demand_of.Goals as goal

step : (arcs : List ArcRow) → All (λ a. a.supplier < a.customer) arcs → (i j : ℕ) → Leads (map supply_arc arcs) i j → i < j
step arcs up i j (k, inside, from, to) =
    let low : k < length arcs = omega (arith, inside, length-map arcs supply_arc) in
    let is = get_or-map supply_arc arcs k no_arc_row no_arc low in
    omega (arith, up k no_arc_row low, sym (ap (λ (a : SupplyArc). a.supplier) is) ∙ from, sym (ap (λ (a : SupplyArc). a.customer) is) ∙ to)

climb : (arcs : List ArcRow) → All (λ a. a.supplier < a.customer) arcs → (n i j : ℕ) → Walk (map supply_arc arcs) i j n → i + n ≤ j
climb arcs up zero i j walk = omega (arith, walk)
climb arcs up (suc n) i j (m, walk, lead) = omega (arith, climb arcs up n i m walk, step arcs up m j lead)

pub tables_of-requires-clause-net : goal.tables_of-requires-clause-net
tables_of-requires-clause-net c = read_is_demand c.in_ok-raw.raw c.in_ok-raw.ensures.within

pub tables_of-requires-clause-acyclic : goal.tables_of-requires-clause-acyclic
tables_of-requires-clause-acyclic c = λ j low reaches.
    let up : All (λ a. a.supplier < a.customer) c.in_ok-raw.raw.arcs = subst (λ (xs : List ArcRow). All (λ a. a.supplier < a.customer) xs) c.as_slice.ensures (c.lead_on.ensures c.if-not-lead_on.false) in
    omega (arith, climb c.in_ok-raw.raw.arcs up (suc reaches.0) j j reaches.1)
