use Rattle.std.proofs.Common.{◌≡◌, ◌++◌, map, filter}
use Rattle.std.specs.List.{range_with_len}
use Rattle.stock_report.specs.Explanations.{is_at_limit, limit_row}
use Rattle.stock_report.proofs.notes.push_limits.Given as goal

abbrev pub invariant-stages : goal.invariant-stages
invariant-stages l = l.rows ≡ l.initial.rows ++ map (limit_row l.checked l.plan) (filter (is_at_limit l.checked.network l.plan) (range_with_len 0 l.place))
