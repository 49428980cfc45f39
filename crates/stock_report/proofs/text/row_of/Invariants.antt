use Rattle.std.proofs.Common.{◌≡◌, map, take}
use Rattle.stock_report.proofs.text.row_of.Given as goal

abbrev pub invariant-words : goal.invariant-words
invariant-words l = l.row ≡ map (λ w. w.now) (take l.word-index l.words)
