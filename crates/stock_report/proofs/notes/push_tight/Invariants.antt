use Rattle.std.proofs.Common.{◌≡◌, ◌++◌, map, filter, take}
use Rattle.stock_report.specs.Explanations.{is_tight, tight_row}
use Rattle.stock_report.proofs.notes.push_tight.Given as goal

abbrev pub invariant-arcs : goal.invariant-arcs
invariant-arcs l = l.rows ≡ l.initial.rows ++ map (tight_row l.checked l.plan) (filter (is_tight l.plan) (take l.arc l.checked.network.arcs))
