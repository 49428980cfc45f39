-- Why a run has nothing to do, and what is printed of it.
use Rattle.std.specs.Prelude.{ℕ, List}
use Rattle.stage_file.specs.declared.fault.ReadFault.{ReadFault}
use Rattle.stock_report.specs.Refusals.{word_row, too_long_row, refused_row}
use Rattle.request_files.specs.declared.unread.Unread.{Unread}
use Rattle.stage_file.specs.declared.fault.ReadFault.TheVariants as read
use Rattle.request_files.specs.declared.unread.Unread.TheVariants as unread
use Rattle.planner_top.specs.declared.stop.Stop.{Stop}
use Rattle.planner_top.specs.declared.stop.Unsolved.{Unsolved}
use Rattle.planner_top.specs.declared.stop.Stop.TheVariants as stop
use Rattle.planner_top.specs.declared.stop.Unsolved.TheVariants as unsolved

-- what is printed where a run is refused
abbrev pub stop_row : Stop → List (List ℕ)
stop_row (stop.Words fault) = word_row fault
stop_row (stop.TooLong word) = too_long_row word
stop_row (stop.Refused fault) = refused_row fault

-- why there is nothing to do, where files were not read into records
abbrev pub unsolved_by : ReadFault → Unsolved
unsolved_by (read.Fault fault) = unsolved.Stop (stop.Refused fault)
unsolved_by read.NoMemory = unsolved.NoMemory

-- why there is nothing to do, where the files of a request were not read
abbrev pub unsolved_as : Unread → Unsolved
unsolved_as (unread.TooLong word) = unsolved.Stop (stop.TooLong word)
unsolved_as (unread.Fault word) = unsolved.Fault word
unsolved_as unread.NoMemory = unsolved.NoMemory
