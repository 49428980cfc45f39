-- The bound of the roots behind.
use Rattle.std.proofs.Common.{◌≡◌, take}
use Rattle.service_model.specs.Nodes.{bound_of}
use Rattle.node_rules.proofs.bound.node_bound.Given as goal

abbrev pub invariant-roots : goal.invariant-roots
invariant-roots l = l.bound ≡ bound_of l.tables (take l.root-index l.roots)
