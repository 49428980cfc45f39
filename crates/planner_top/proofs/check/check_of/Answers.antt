use Rattle.planner_top.proofs.DoneFacts.{check_done, check_refused}
use Rattle.planner_top.proofs.check.check_of.Goals as goal

pub returns-in-Ok-clause-check : goal.returns-in-Ok-clause-check
returns-in-Ok-clause-check c = check_done c.args.checked.now c.args.bytes.now c.in-Ok.text c.args.detail c.in-Ok.ensures

pub returns-in_ok-not_accepted_text-in-Err-Fault-clause-check : goal.returns-in_ok-not_accepted_text-in-Err-Fault-clause-check
returns-in_ok-not_accepted_text-in-Err-Fault-clause-check c =
    check_refused c.args.checked.now c.args.bytes.now c.in_ok-not_accepted_text-in-Err-Fault.field-0 c.args.detail c.in-Err-Fault.fault.line c.in-Err-Fault.fault.rule (rw c.in-Err-Fault.field-0-is at c.in-Err-Fault.ensures) c.in_ok-not_accepted_text-in-Err-Fault.ensures
