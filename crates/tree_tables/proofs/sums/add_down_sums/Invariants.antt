-- The sums over the children that were gone through.
use Rattle.std.proofs.Common.{take}
use Rattle.tree_tables.specs.Sums.{AreDownSums}
use Rattle.tree_tables.proofs.sums.add_down_sums.Given as goal

abbrev pub invariant-children : goal.invariant-children
invariant-children l = AreDownSums l.network.arcs l.made l.stage (take l.child-index l.children) l.sums
