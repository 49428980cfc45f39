use Rattle.planner_top.proofs.CaseFacts.{raw_refused, task_found}
use Rattle.planner_top.proofs.task.network_task.Goals as goal

pub returns-in-Ok : goal.returns-in-Ok
returns-in-Ok c =
    let read = rw c.in_ok-files.ensures.value at c.in-Ok.ensures.value in
    task_found c.args.command c.args.ranges c.args.horizon c.args.contents c.in-Ok.raw c.task_in.result read.0 read.1 c.task_in.ensures

pub returns-in-Err : goal.returns-in-Err
returns-in-Err c = rw c.unsolved_by.ensures (raw_refused c.args.command c.args.ranges c.args.horizon c.args.contents c.in_ok-files.files c.in-Err.fault c.in_ok-files.ensures.value c.in-Err.ensures.value)
