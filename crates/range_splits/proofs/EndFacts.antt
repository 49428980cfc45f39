-- The ending of a search keeps the rules on verdicts.
use Rattle.std.proofs.Common.{ℕ, ◌<◌, ◌≤◌, length, Option, Some, None, refl, sym, ap, ◌∙◌, subst, arith}
use Rattle.std.specs.Prelude.{◌==◌, IfSome}
use Rattle.std.proofs.lemmas.List.{length-map, get_or_default}
use Rattle.service_model.specs.declared.limits.TheConstants.{INF}
use Rattle.service_model.specs.declared.cert_rules.TheConstants.{VERDICT, PLAN}
use Rattle.service_model.specs.declared.plan.Plan.{Plan}
use Rattle.service_model.specs.declared.cert.Outcome.{Outcome}
use Rattle.service_model.specs.declared.cert.Outcome.TheVariants.{Optimal, Infeasible, Spent}
use Rattle.service_model.specs.Net.{Net}
use Rattle.service_model.specs.Plans.{Feasible}
use Rattle.service_model.specs.Networks.{IsNetwork}
use Rattle.service_model.specs.CertNumbers.{PlanInRange}
use Rattle.service_model.specs.Repairs.{Found}
use Rattle.service_model.specs.Verdicts.{IsLeastBound, EndsWith, ending_plan}
use Rattle.service_model.specs.Held.{Held, relaxed_of, roots_of, cuts_of, budget_of}
use Rattle.service_model.specs.CertRules.{EndsAsTold, HasEndingPlan}
use Rattle.cert_laws.proofs.TablesKeptFacts.{either}
use Rattle.cert_laws.proofs.RepairFacts.{found_one_law}
use Rattle.cert_laws.proofs.TruthFacts.{found_feasible}
use Rattle.range_splits.specs.Laws.{EndLaw}

plan_in_range : (n : Net) (p : Plan) → IsNetwork n → Feasible n p → PlanInRange p
plan_in_range n p valid feasible = record {
  inbound = λ k d within.
      let low : k < length n.stages = omega (arith, within, feasible.times.inbound) in
      omega (arith, get_or_default p.inbound k d 0 within, (feasible.stages k low).within, valid.horizon);
  outbound = λ k d within.
      let low : k < length n.stages = omega (arith, within, feasible.times.outbound) in
      omega (arith, get_or_default p.outbound k d 0 within, (feasible.stages k low).not_late, (valid.stages k low).most, valid.horizon);
}

found_in_range : (n : Net) (h : Held) (found : Option Plan) → IsNetwork n → Found n (relaxed_of h) found → IfSome found PlanInRange
found_in_range n h None valid is = tt
found_in_range n h (Some p) valid is = plan_in_range n p valid (found_feasible n (relaxed_of h) (Some p) p is refl)

ending_in_range : (outcome : Outcome) (found : Option Plan) → IfSome found PlanInRange → IfSome (ending_plan outcome found) PlanInRange
ending_in_range Optimal found within = within
ending_in_range Infeasible found within = tt
ending_in_range Spent found within = within

bound_low : (outcome : Outcome) (n : Net) (found : Option Plan) (least nodes budget bound : ℕ) → least ≤ INF → EndsWith outcome n found least nodes budget bound → bound ≤ INF
bound_low Optimal n None least nodes budget bound low ends = absurd ends
bound_low Optimal n (Some p) least nodes budget bound low ends = omega (arith, low, ends.0, ends.1)
bound_low Infeasible n found least nodes budget bound low (open', all, is) = omega (arith, is)
bound_low Spent n found least nodes budget bound low (open', finite, late, is) = omega (arith, low, is)

least_low : (n : Net) (h : Held) (least : ℕ) → IsLeastBound h.tables (roots_of h) (cuts_of n h) least → least ≤ INF
least_low n h least is = let reached = is.reached in omega (arith, reached)

pub end_law : EndLaw
end_law n h found least v valid is least_is ends plan =
    let nodes = length-map h.nodes (λ x. x.roots) in
    let told : EndsAsTold n h v = (
      found,
      record {
        is_found = is;
        least = least;
        is_least = least_is;
        ends = subst (λ k. EndsWith v.outcome n found least k (budget_of h) v.bound) (sym nodes) ends;
      },
    ) in
    let own : HasEndingPlan n h v = λ other is'.
    plan ∙ ap (ending_plan v.outcome) (found_one_law n (relaxed_of h) found other valid is is') in (
      record {
        bound = bound_low v.outcome n found least (length h.nodes) (budget_of h) v.bound (least_low n h least least_is) ends;
        plan = subst (λ o. IfSome o PlanInRange) (sym plan) (ending_in_range v.outcome found (found_in_range n h found valid is));
      },
      λ rule. either (rule == VERDICT) _ _ told (either (rule == PLAN) _ _ own tt),
    )
