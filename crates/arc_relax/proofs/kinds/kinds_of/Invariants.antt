-- The children that the arcs behind join to their parents have their kinds.
use Rattle.arc_relax.specs.Kinds.{AreMarked}
use Rattle.arc_relax.proofs.kinds.kinds_of.Given as goal

abbrev pub invariant-arcs : goal.invariant-arcs
invariant-arcs l = AreMarked l.network.arcs l.forest.parent l.a l.kinds
