use Rattle.std.proofs.Common.{[], ◌∷◌, inr}
use Rattle.stock_report.specs.Lines.{lines_of}
use Rattle.stock_report.specs.Refusals.{write_fault_row}
use Rattle.planner_top.proofs.StatusFacts.{all_is_front}
use Rattle.planner_top.proofs.top.print_unwritten.Goals as goal

pub returns-in-Ok-print : goal.returns-in-Ok-print
returns-in-Ok-print g c =
    let follows = rw c.in-Ok.ensures at c.in-Ok-print.ensures.ok in
    let later = c.in-Ok-print.ensures.cause.later in
    (later, all_is_front _ _ (lines_of (write_fault_row ∷ [])) follows, inr (c.in-Ok-print.ensures.cause.kept, follows))
