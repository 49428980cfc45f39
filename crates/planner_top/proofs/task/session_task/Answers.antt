use Rattle.planner_top.proofs.CaseFacts.{session_found, session_refused}
use Rattle.planner_top.proofs.task.session_task.Goals as goal

pub returns-in-Ok : goal.returns-in-Ok
returns-in-Ok c =
    session_found c.args.ranges c.args.horizon c.args.contents c.in_ok-files.files c.in_ok-script.script c.in-Ok.session c.in_ok-files.ensures.value (rw c.as_slice.ensures at c.in_ok-script.ensures.value)
    c.in_ok-script.ensures.countable c.in_ok-script.ensures.few c.in_ok-files.ensures.few c.in-Ok.ensures

pub returns : goal.returns
returns c = rw c.unsolved_by.ensures (session_refused c.args.ranges c.args.horizon c.args.contents c.in_ok-files.files c.in-Err.fault c.in_ok-files.ensures.value c.in-Err.ensures)
