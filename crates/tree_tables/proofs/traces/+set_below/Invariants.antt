-- The children that were gone through are traced; children are earlier tables.
use Rattle.tree_tables.proofs.ChildFacts.{Soon}
use Rattle.tree_tables.proofs.traces.+set_below.Given as goal

abbrev pub decreases-set_below : goal.decreases-set_below
decreases-set_below l = l.i

abbrev pub invariant-children : goal.invariant-children
invariant-children l = Soon l.network l.made l.table l.times.inbound l.times.outbound l.c-index l.fn.plan l.plan
