-- A feasible plan keeps the floors of each range that it lies in.
use Rattle.std.proofs.Common.{◌≡◌, ℕ, ◌<◌, ◌≤◌, Bool, true, false, cond, List, [], ◌∷◌, length, refl, ap, arith}
use Rattle.std.specs.Prelude.{max, ◌==◌}
use Rattle.std.specs.List.{AllByRecursion}
use Rattle.std.proofs.lemmas.Bool.{eqb-true}
use Rattle.std.proofs.lemmas.List.Elements.{recursion_from_All}
use Rattle.service_model.specs.declared.stage.SupplyArc.{SupplyArc}
use Rattle.service_model.specs.declared.plan.Plan.{Plan}
use Rattle.service_model.specs.declared.range.Range.{Range}
use Rattle.service_model.specs.Net.{Net, stage_at}
use Rattle.service_model.specs.Plans.{Feasible, Meets, inbound_at}
use Rattle.service_model.specs.Customers.{HasEnds}
use Rattle.service_model.specs.Ranges.{IsIn, latest_start, floor_of}

raised_le : (leads : Bool) (x y z : ℕ) → y ≤ z → (leads ≡ true → x ≤ z) → cond leads (max x y) y ≤ z
raised_le true x y z low late = let e = late refl in omega arith
raised_le false x y z low late = low

latest_le : (n : Net) (r : Range) (p : Plan) (j start : ℕ) → IsIn n r p → start ≤ inbound_at p j → (arcs : List SupplyArc)
    → AllByRecursion (λ a. (a.supplier < length n.stages) × (a.customer < length n.stages)) arcs → AllByRecursion (Meets p) arcs
    → latest_start arcs r.least j start ≤ inbound_at p j
latest_le n r p j start inside begun [] ends met = begun
latest_le n r p j start inside begun (a ∷ arcs) ends met =
    raised_le (a.customer == j) _ _ _ (latest_le n r p j start inside begun arcs ends.1 met.1)
    (λ is.
    let to : inbound_at p a.customer ≡ inbound_at p j = ap (inbound_at p) (eqb-true a.customer j is) in
    omega (arith, to, met.0, (inside a.supplier ends.0.0).0))

-- each inbound time of the plan is at least the floor
pub floor_le : (n : Net) (r : Range) (p : Plan) (j : ℕ) → HasEnds (length n.stages) n.arcs → Feasible n p → IsIn n r p → j < length n.stages
    → floor_of n r j ≤ inbound_at p j
floor_le n r p j ends feasible inside within =
    let late = latest_le n r p j (stage_at n j).supply inside (feasible.stages j within).supplied n.arcs
    (recursion_from_All _ _ ends) (recursion_from_All _ _ feasible.arcs) in
    omega (arith, late)
