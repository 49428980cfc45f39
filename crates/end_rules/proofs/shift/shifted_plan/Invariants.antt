use Rattle.end_rules.proofs.ShiftFacts.{AreShifted}
use Rattle.end_rules.proofs.shift.shifted_plan.Given as goal

abbrev pub invariant-order : goal.invariant-order
invariant-order l = AreShifted l.network l.plan l.repair l.order l.k
