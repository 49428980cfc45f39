use Rattle.std.proofs.Common.{◌≡◌, ◌∷◌, map}
use Rattle.std.specs.List.{range_with_len}
use Rattle.trial_rows.specs.Trials.{stage_header, stage_row}
use Rattle.trial_rows.proofs.files.stage_rows.Given as goal

abbrev pub invariant-stages : goal.invariant-stages
invariant-stages l = l.rows ≡ stage_header ∷ map (stage_row l.stages l.arcs) (range_with_len 0 l.j)
