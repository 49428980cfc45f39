use Rattle.std.proofs.Common.{◌≡◌, ◌++◌, map}
use Rattle.std.specs.List.{range_with_len}
use Rattle.stock_report.specs.Explanations.{node_row}
use Rattle.stock_report.proofs.node.push_nodes.Given as goal

abbrev pub invariant-nodes : goal.invariant-nodes
invariant-nodes l = l.rows ≡ l.initial.rows ++ map (node_row l.checked l.cert) (range_with_len 0 l.place)
