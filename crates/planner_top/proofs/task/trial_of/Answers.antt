use Rattle.planner_top.proofs.CaseFacts.{trial_found, trial_breaks}
use Rattle.planner_top.proofs.task.trial_of.Goals as goal

pub returns-in-Ok-check_records : goal.returns-in-Ok-check_records
returns-in-Ok-check_records c =
    let read = rw c.in_ok-files.ensures.value at c.in-Ok.ensures.value in
    trial_found c.args.numbers c.args.ranges c.args.horizon c.in-Ok.raw c.solve_task.result read.0 read.1 c.in-Ok-check_records.ensures.0 c.solve_task.ensures

pub returns-in-Ok : goal.returns-in-Ok
returns-in-Ok c =
    let read = rw c.in_ok-files.ensures.value at c.in-Ok.ensures.value in
    rw c.unsolved_by.ensures (trial_breaks c.args.numbers c.args.ranges c.args.horizon c.in-Ok.raw c.in-Err-check_records.refused read.0 read.1 c.in-Err-check_records.ensures)
