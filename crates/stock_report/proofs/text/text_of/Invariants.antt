use Rattle.std.proofs.Common.{◌≡◌, take}
use Rattle.stock_report.specs.Lines.{lines_of}
use Rattle.stock_report.proofs.text.text_of.Given as goal

abbrev pub invariant-rows : goal.invariant-rows
invariant-rows l = l.text.items ≡ lines_of (take l.row-index l.rows)
