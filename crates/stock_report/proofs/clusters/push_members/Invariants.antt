use Rattle.std.proofs.Common.{◌≡◌, ◌++◌, map}
use Rattle.std.specs.List.{range_with_len}
use Rattle.stock_report.specs.ClusterRows.{member_row}
use Rattle.stock_report.proofs.clusters.push_members.Given as goal

abbrev pub invariant-stages : goal.invariant-stages
invariant-stages l = l.rows ≡ l.initial.rows ++ map (member_row l.checked l.clusters) (range_with_len 0 l.place)
