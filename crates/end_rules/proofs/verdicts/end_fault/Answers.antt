use Rattle.std.proofs.Common.{refl}
use Rattle.end_rules.proofs.VerdictFacts.{verdict_fails, plan_fails, none_fails}
use Rattle.end_rules.proofs.verdicts.end_fault.Goals as goal

pub returns-then-not-ends_as_told : goal.returns-then-not-ends_as_told
returns-then-not-ends_as_told c = record {
  first = λ h found least nodes budget.
      verdict_fails c.args.network.now h c.args.verdict.now c.args.nodes c.args.budget c.args.least c.args.found.now
      (record { valid = c.network_law.ensures; is_found = found; is_least = least; nodes_came = nodes; budget_is = budget })
      (λ ends. (let told = c.if-not-ends_as_told.ensures.1 ends in cc));
}

pub returns-then-not-has_ending_plan : goal.returns-then-not-has_ending_plan
returns-then-not-has_ending_plan c = record {
  first = λ h found least nodes budget.
      plan_fails c.args.network.now h c.args.verdict.now c.args.nodes c.args.budget c.args.least c.args.found.now
      (record { valid = c.network_law.ensures; is_found = found; is_least = least; nodes_came = nodes; budget_is = budget })
      (c.if-not-ends_as_told.ensures.0 refl)
      (λ has. (let told = c.if-not-has_ending_plan.ensures.1 has in cc));
}

pub returns : goal.returns
returns c = record {
  first = λ h found least nodes budget.
      none_fails c.args.network.now h c.args.verdict.now c.args.nodes c.args.budget c.args.least c.args.found.now
      (record { valid = c.network_law.ensures; is_found = found; is_least = least; nodes_came = nodes; budget_is = budget })
      (c.if-not-ends_as_told.ensures.0 refl)
      (c.if-not-has_ending_plan.ensures.0 refl);
}
