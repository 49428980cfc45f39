use Rattle.incumbent_repair.proofs.ShiftFacts.{AreShifted}
use Rattle.incumbent_repair.proofs.shifts.shifted_plan.Given as goal

abbrev pub invariant-order : goal.invariant-order
invariant-order l = AreShifted l.network l.plan l.repair l.order l.k
