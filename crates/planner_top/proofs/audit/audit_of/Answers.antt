use Rattle.std.proofs.Common.{sym}
use Rattle.planner_top.proofs.DoneFacts.{audit_done, audit_broken}
use Rattle.planner_top.proofs.audit.audit_of.Goals as goal

pub returns-in-None-clause-audit : goal.returns-in-None-clause-audit
returns-in-None-clause-audit c = audit_done c.args.checked.now c.args.plan.now c.in_ok-text.text (sym c.in-None.ensures.value) c.in-None.ensures.none c.in_ok-text.ensures

pub returns-in-Some-clause-audit : goal.returns-in-Some-clause-audit
returns-in-Some-clause-audit c = audit_broken c.args.checked.now c.args.plan.now c.in-Some.field-0 c.in_ok-text.text (sym c.in-Some.ensures.value) c.in-Some.ensures.some c.in_ok-text.ensures
