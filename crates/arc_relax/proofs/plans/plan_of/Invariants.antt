-- The plan is traced from the roots behind.
use Rattle.std.proofs.Common.{take}
use Rattle.gsm_laws.proofs.WholeFacts.{Roots}
use Rattle.arc_relax.proofs.plans.plan_of.Given as goal

abbrev pub invariant-roots : goal.invariant-roots
invariant-roots l = Roots l.network l.made (take l.root-index l.roots) l.initial.plan l.plan
