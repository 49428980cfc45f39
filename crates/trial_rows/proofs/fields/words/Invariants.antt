use Rattle.std.proofs.Common.{◌≡◌, map, take}
use Rattle.trial_rows.proofs.fields.words.Given as goal

abbrev pub invariant-words : goal.invariant-words
invariant-words l = l.row ≡ map (λ w. w.now) (take l.word-index l.words)
