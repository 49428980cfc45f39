use Rattle.planner_top.proofs.CaseFacts.{audit_last, check_last}
use Rattle.planner_top.proofs.task.last_of.Goals as goal

pub returns-in-Ok : goal.returns-in-Ok
returns-in-Ok c = rw c.in-Audit.is (audit_last c.args.ranges c.args.raw.now c.args.further c.args.checked c.in-Ok.plan c.requires.made c.requires.checked (rw c.as_slice.ensures at c.in-Ok.ensures))

pub returns-in-Check : goal.returns-in-Check
returns-in-Check c =
    let short = rw c.in-Check.is at c.requires.short in
    rw c.in-Check.is (check_last c.args.ranges c.args.raw.now c.args.further c.args.checked c.requires.made c.requires.checked short)
