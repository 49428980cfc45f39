-- The sums over the children that were gone through.
use Rattle.std.proofs.Common.{take}
use Rattle.table_rules.specs.Sums.{AreDownSums}
use Rattle.table_rules.proofs.sums.write_down_sums.Given as goal

abbrev pub invariant-children : goal.invariant-children
invariant-children l = AreDownSums l.network.arcs l.earlier l.stage (take l.child-index l.children) l.sums
