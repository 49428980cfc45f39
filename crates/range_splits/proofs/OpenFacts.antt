-- A plan that meets all arcs is its own repair, so that no leaf whose relaxed plan is feasible is open.
use Rattle.std.proofs.Common.{◌≡◌, ℕ, ◌+◌, ◌≤◌, Bool, true, false, cond, List, [], ◌∷◌, get_or, Option, Some, None, refl, sym, ap, ◌∙◌, arith}
use Rattle.std.specs.Prelude.{max, ◌==◌}
use Rattle.std.specs.List.{AllByRecursion}
use Rattle.std.proofs.lemmas.Bool.{eqb-true}
use Rattle.std.proofs.lemmas.List.{get_or-map}
use Rattle.std.proofs.lemmas.List.Elements.{recursion_from_All}
use Rattle.service_model.specs.declared.stage.SupplyArc.{SupplyArc}
use Rattle.service_model.specs.declared.plan.Plan.{Plan}
use Rattle.service_model.specs.Net.{Net}
use Rattle.service_model.specs.Plans.{Meets, Feasible, inbound_at, outbound_at, cost_of}
use Rattle.service_model.specs.Repairs.{Raise, IsRepair, IsCandidate, latest_arrival, Found}
use Rattle.service_model.specs.Held.{Held, no_node, relaxed_of, bound_at}
use Rattle.service_model.specs.Earned.{IsOpen}
use Rattle.range_splits.specs.Laws.{OpenLaw}

raised_same : (b : Bool) (out rest time : ℕ) → (b ≡ true → out ≤ time) → rest ≡ time → cond b (max out rest) rest ≡ time
raised_same true out rest time met is = let late = met refl in omega (arith, late, is)
raised_same false out rest time met is = is

latest_met : (arcs : List SupplyArc) (p : Plan) (j : ℕ) → AllByRecursion (Meets p) arcs → latest_arrival arcs p j (inbound_at p j) ≡ inbound_at p j
latest_met [] p j met = refl
latest_met (a ∷ arcs) p j met =
    raised_same (a.customer == j) (outbound_at p a.supplier + a.transit) (latest_arrival arcs p j (inbound_at p j)) (inbound_at p j)
    (λ here. let to = ap (inbound_at p) (eqb-true a.customer j here) in omega (arith, met.0, to))
    (latest_met arcs p j met.1)

pub own_repair : (n : Net) (p : Plan) → Feasible n p → IsRepair Raise n p p
own_repair n p feasible = record {
  times = feasible.times;
  stages = λ j low. (sym (latest_met n.arcs p j (recursion_from_All (Meets p) n.arcs feasible.arcs)), refl);
}

-- the relaxed plan of node k, where it is feasible, is a candidate
pub own_candidate : (n : Net) (relaxed : List (Option Plan)) (k : ℕ) (p : Plan) → get_or relaxed k None ≡ Some p → Feasible n p → IsCandidate n relaxed k Raise p
own_candidate n relaxed k p there feasible = record {
  from = p;
  there = there;
  repairable = record {
    times = feasible.times;
    stages = λ j low. ((feasible.stages j low).within, (feasible.stages j low).not_late);
  };
  repair = own_repair n p feasible;
  feasible = feasible;
}

not_open : (n : Net) (h : Held) (k : ℕ) (found : Option Plan) (p : Plan) → Found n (relaxed_of h) found → IsOpen n h k
    → IsCandidate n (relaxed_of h) k Raise p → cost_of n p ≡ bound_at h k → ⊥
not_open n h k None p found opened candidate cost = found k Raise p candidate
not_open n h k (Some q) p found opened candidate cost =
    let low = opened.below q found in
    let few = found.least k Raise p candidate in
    omega (arith, low, few, cost)

pub open_law : OpenLaw
open_law n h k found p is opened within relaxed cost feasible =
    let there = get_or-map (λ x. x.relaxed) h.nodes k no_node None within ∙ relaxed in
    not_open n h k found p is opened (own_candidate n (relaxed_of h) k p there feasible) cost
