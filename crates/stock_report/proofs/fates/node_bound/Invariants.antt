use Rattle.std.proofs.Common.{◌≡◌, take}
use Rattle.service_model.specs.Nodes.{bound_of}
use Rattle.stock_report.proofs.fates.node_bound.Given as goal

abbrev pub invariant-roots : goal.invariant-roots
invariant-roots l = l.bound ≡ bound_of l.tables (take l.root-index l.roots)
