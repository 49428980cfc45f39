use Rattle.range_splits.specs.Breaks.{IsMostSoFar}
use Rattle.range_splits.proofs.broken.broken_arc.Given as goal

abbrev pub invariant-arcs : goal.invariant-arcs
invariant-arcs l = IsMostSoFar l.network l.plan l.a l.best
