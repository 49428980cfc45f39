-- Arcs between two stages, and their transits.
use Rattle.std.proofs.Common.{◌≡◌, ℕ, zero, suc, ◌<◌, Bool, true, false, cond, List, [], ◌∷◌, length, refl, ◌∙◌, arith}
use Rattle.std.specs.Prelude.{◌&&◌, ◌==◌}
use Rattle.std.proofs.lemmas.Bool.{eqb-true, eq-eqb, and_parts, and_from}
use Rattle.std.proofs.lemmas.List.{get_or_default}
use Rattle.service_model.specs.declared.stage.SupplyArc.{SupplyArc}
use Rattle.service_model.specs.Net.{Net, no_arc, arc_in}
use Rattle.service_model.specs.Walks.{Leads}
use Rattle.service_model.specs.Faults.{IsSameEnds}
use Rattle.service_model.specs.Networks.{IsNetwork}
use Rattle.service_model.specs.Tables.{Supplies, transit_in}

-- an arc that leads from stage i to stage j, in both forms
pub supplies_from_leads : (arcs : List SupplyArc) (i j : ℕ) → Leads arcs i j → Supplies arcs i j
supplies_from_leads arcs i j (a, within, from, to) =
    (a, arc_in arcs a, within, get_or_default arcs a (arc_in arcs a) no_arc within, (from, to))

pub leads_from_supplies : (arcs : List SupplyArc) (i j : ℕ) → Supplies arcs i j → Leads arcs i j
leads_from_supplies arcs i j (a, arc, within, is, (from, to)) =
    let there : arc_in arcs a ≡ arc = get_or_default arcs a no_arc arc within ∙ is in
    (a, within, rw there from, rw there to)

chosen : (test : Bool) (x y : ℕ) → test ≡ true → cond test x y ≡ x
chosen true x y is = refl
chosen false x y is = cc

pub other : (test : Bool) (x y : ℕ) → (test ≡ true → ⊥) → cond test x y ≡ y
other true x y not = absurd (not refl)
other false x y not = refl

transit_in-at : (arcs : List SupplyArc) (a : ℕ) → a < length arcs → ((b : ℕ) → b < a → IsSameEnds (arc_in arcs b) (arc_in arcs a) → ⊥)
    → transit_in arcs (arc_in arcs a).supplier (arc_in arcs a).customer ≡ (arc_in arcs a).transit
transit_in-at [] a within once = absurd (omega arith)
transit_in-at (x ∷ arcs) zero within once =
    chosen ((x.supplier == x.supplier) && (x.customer == x.customer)) x.transit (transit_in arcs x.supplier x.customer)
    (and_from (x.supplier == x.supplier) (x.customer == x.customer) (eq-eqb x.supplier x.supplier refl) (eq-eqb x.customer x.customer refl))
transit_in-at (x ∷ arcs) (suc a) within once =
    let y = arc_in arcs a in
    other ((x.supplier == y.supplier) && (x.customer == y.customer)) x.transit (transit_in arcs y.supplier y.customer)
    (λ is.
    let parts = and_parts (x.supplier == y.supplier) (x.customer == y.customer) is in
    once 0 (omega arith) (eqb-true x.supplier y.supplier parts.0, eqb-true x.customer y.customer parts.1))
    ∙ transit_in-at arcs a (omega arith) (λ b less same. once (suc b) (omega arith) same)

-- the transit between the ends of an arc of a network is the arc's
pub transit_in-arc : (n : Net) (a : ℕ) → IsNetwork n → a < length n.arcs
    → transit_in n.arcs (arc_in n.arcs a).supplier (arc_in n.arcs a).customer ≡ (arc_in n.arcs a).transit
transit_in-arc n a valid within = transit_in-at n.arcs a within (λ b less same. valid.once b a less within same)
