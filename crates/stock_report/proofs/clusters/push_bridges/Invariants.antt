use Rattle.std.proofs.Common.{◌≡◌, ◌++◌, map, take}
use Rattle.stock_report.specs.ClusterRows.{bridge_row}
use Rattle.stock_report.proofs.clusters.push_bridges.Given as goal

abbrev pub invariant-bridges : goal.invariant-bridges
invariant-bridges l = l.rows ≡ l.initial.rows ++ map (bridge_row l.checked) (take l.bridge-index l.bridges)
