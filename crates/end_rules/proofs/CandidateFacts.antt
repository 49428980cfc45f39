-- The repair of a plan is its only candidate, where it is feasible.
use Rattle.std.proofs.Common.{◌≡◌, ℕ, List, Option, Some, None, refl, sym, ◌∙◌, subst}
use Rattle.service_model.specs.declared.plan.Plan.{Plan}
use Rattle.service_model.specs.Net.{Net}
use Rattle.service_model.specs.Plans.{HasTimes, Feasible}
use Rattle.service_model.specs.Networks.{IsNetwork}
use Rattle.service_model.specs.Repairs.{Repair, Raise, Lower, IsRepair, IsRepairable, IsCandidateOf, FoundOf}
use Rattle.cert_laws.proofs.RepairFacts.{repair_law}
use Rattle.end_rules.specs.Times.{AreArrivals, AreNeeds}
use Rattle.end_rules.specs.Candidates.{CandidateOf, IfFeasible}

pub raise_from : (n : Net) (q : Plan) (times : List ℕ) → HasTimes n q → AreArrivals n q times
    → (let p : Plan = record { inbound = times; outbound = q.outbound } in IsRepair Raise n q p)
raise_from n q times both are = record {
  times = record { inbound = are.long; outbound = both.outbound };
  stages = λ j within. (are.each j within, refl);
}

pub lower_from : (n : Net) (q : Plan) (times : List ℕ) → HasTimes n q → AreNeeds n q times
    → (let p : Plan = record { inbound = q.inbound; outbound = times } in IsRepair Lower n q p)
lower_from n q times both are = record {
  times = record { inbound = both.inbound; outbound = are.long };
  stages = λ j within. (refl, are.each j within);
}

same_plan : {x y : Plan} → (let a : Option Plan = Some x in a ≡ Some y) → y ≡ x
same_plan same = cc

-- a candidate is the repair
candidate_is : (n : Net) (kind : Repair) (q p other : Plan) → IsNetwork n → IsRepair kind n q p → IsCandidateOf n (Some q) kind other → other ≡ p
candidate_is n kind q p other valid repair is =
    repair_law n kind q other p valid (subst (λ x. IsRepair kind n x other) (same_plan is.there) is.repair) repair

pub candidate_from : (n : Net) (kind : Repair) (q p : Plan) (found : Option Plan) → IsNetwork n → IsRepairable n q → IsRepair kind n q p
    → IfFeasible n p found → CandidateOf n (Some q) kind found
candidate_from n kind q p None valid may repair never = λ other is. never (subst (Feasible n) (candidate_is n kind q p other valid repair is) is.feasible)
candidate_from n kind q p (Some r) valid may repair (same, feasible) = record {
  candidate = record { from = q; there = refl; repairable = may; repair = subst (IsRepair kind n q) (sym same) repair; feasible = subst (Feasible n) (sym same) feasible };
  only = λ other is. candidate_is n kind q p other valid repair is ∙ sym same;
}

-- where there is no plan to repair, there is no candidate
pub found_of_none : (n : Net) → FoundOf n None None
found_of_none n = λ kind p is. (let there = is.there in cc)

pub found_of_other : (n : Net) (q : Plan) → ¬ IsRepairable n q → FoundOf n (Some q) None
found_of_other n q not = λ kind p is. not (subst (IsRepairable n) (same_plan is.there) is.repairable)
