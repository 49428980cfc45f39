use Rattle.std.proofs.Common.{◌≡◌, ◌∷◌, map, take}
use Rattle.trial_rows.specs.Trials.{arc_header, arc_row}
use Rattle.trial_rows.proofs.files.arc_rows.Given as goal

abbrev pub invariant-arcs : goal.invariant-arcs
invariant-arcs l = l.rows ≡ arc_header ∷ map arc_row (take l.arc-index l.arcs)
