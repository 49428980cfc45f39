-- The sums over the children that were gone through.
use Rattle.std.proofs.Common.{take}
use Rattle.tree_tables.specs.Sums.{AreUpSums}
use Rattle.tree_tables.proofs.sums.add_up_sums.Given as goal

abbrev pub invariant-children : goal.invariant-children
invariant-children l = AreUpSums l.network.arcs l.made l.stage (take l.child-index l.children) l.sums
