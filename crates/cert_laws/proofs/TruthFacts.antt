-- The ending of a search is true of the network.
use Rattle.std.proofs.Common.{◌≡◌, ℕ, ◌≤◌, List, length, Option, Some, None, sym, ◌∙◌, subst, arith}
use Rattle.service_model.specs.declared.plan.Plan.{Plan}
use Rattle.service_model.specs.declared.cert.Outcome.{Outcome}
use Rattle.service_model.specs.declared.cert.Outcome.TheVariants.{Optimal, Infeasible, Spent}
use Rattle.service_model.specs.Net.{Net}
use Rattle.service_model.specs.Plans.{Feasible, cost_of}
use Rattle.service_model.specs.Networks.{IsNetwork}
use Rattle.service_model.specs.Repairs.{Found}
use Rattle.service_model.specs.Verdicts.{EndsWith, ending_plan, TrueAs}
use Rattle.service_model.proofs.NetworkFacts.{IsNetwork-HasEnds}
use Rattle.service_model.proofs.CostFacts.{cost_within}
use Rattle.cert_laws.specs.Laws.{TrueLaw}
use Rattle.cert_laws.proofs.LeafFacts.{least_bound_law}

-- the plan found is feasible
pub found_feasible : (n : Net) (relaxed : List (Option Plan)) (found : Option Plan) (p : Plan) → Found n relaxed found → found ≡ Some p → Feasible n p
found_feasible n relaxed None p is same = cc
found_feasible n relaxed (Some q) p is same = let one : q ≡ p = cc in subst (Feasible n) one is.candidate.feasible

-- what an ending says is true, where no feasible plan costs less than the least bound
ending_true : (outcome : Outcome) (n : Net) (relaxed : List (Option Plan)) (found : Option Plan) (least nodes budget bound : ℕ) (plan : Option Plan) → IsNetwork n
    → Found n relaxed found → ((p : Plan) → Feasible n p → least ≤ cost_of n p) → EndsWith outcome n found least nodes budget bound
    → plan ≡ ending_plan outcome found → TrueAs outcome n bound plan
ending_true Optimal n relaxed None least nodes budget bound plan valid is lower ends same = absurd ends
ending_true Optimal n relaxed (Some p) least nodes budget bound plan valid is lower ends same =
    subst (TrueAs Optimal n bound) (sym same)
    (record { feasible = is.candidate.feasible; least = λ q feasible. omega (arith, ends.0, lower q feasible) }, ends.1)
ending_true Infeasible n relaxed found least nodes budget bound plan valid is lower (open', all, is_bound) same =
    (is_bound, same, λ p feasible. omega (arith, all, lower p feasible, cost_within n p valid feasible))
ending_true Spent n relaxed found least nodes budget bound plan valid is lower (open', some, spent, is_bound) same = (
  λ p feasible. omega (arith, is_bound, lower p feasible),
  λ p has. found_feasible n relaxed found p is (sym same ∙ has),
)

pub true_law : TrueLaw
true_law n s budget v valid sound are nodes (found, ending, plan) =
    ending_true v.outcome n s.relaxed found ending.least (length s.roots) budget v.bound v.plan valid ending.is_found
    (λ p feasible. least_bound_law n s.tables s.roots s.cuts ending.least p (IsNetwork-HasEnds n valid) sound are nodes ending.is_least.lower feasible)
    ending.ends plan
