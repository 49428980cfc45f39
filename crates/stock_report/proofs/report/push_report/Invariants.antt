use Rattle.std.proofs.Common.{◌≡◌, ◌++◌, map}
use Rattle.std.specs.List.{range_with_len}
use Rattle.stock_report.specs.Reports.{report_row}
use Rattle.stock_report.proofs.report.push_report.Given as goal

abbrev pub invariant-stages : goal.invariant-stages
invariant-stages l = l.rows ≡ l.initial.rows ++ map (report_row l.checked l.plan) (range_with_len 0 l.place)
