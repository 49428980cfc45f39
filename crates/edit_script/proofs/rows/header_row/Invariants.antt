use Rattle.std.proofs.Common.{◌≡◌, map, take}
use Rattle.edit_script.proofs.rows.header_row.Given as goal

abbrev pub invariant-words : goal.invariant-words
invariant-words l = l.row ≡ map (λ w. w.now) (take l.word-index l.words)
