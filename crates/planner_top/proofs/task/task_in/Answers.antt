use Rattle.planner_top.proofs.CaseFacts.{records_refused}
use Rattle.planner_top.proofs.task.task_in.Goals as goal

pub returns-in-Err : goal.returns-in-Err
returns-in-Err c = rw c.unsolved_by.ensures (records_refused c.args.command c.args.ranges c.args.raw.now c.args.further c.in-Err.refusal c.in-Err.ensures)
