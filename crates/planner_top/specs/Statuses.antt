-- The number of each status.
use Rattle.std.specs.Prelude.{ℕ}
use Rattle.planner_top.specs.declared.status.Status.{Status}
use Rattle.planner_top.specs.declared.status.Status.TheVariants as status

-- the number of a status
abbrev pub status_number : Status → ℕ
status_number status.Done = 0
status_number status.Infeasible = 2
status_number status.Spent = 3
status_number status.Words = 4
status_number status.Refused = 5
status_number status.TooLong = 6
status_number status.ReadFault = 7
status_number status.WriteFault = 8
status_number status.NoMemory = 9
status_number status.NotAccepted = 10
status_number status.NotFeasible = 11
