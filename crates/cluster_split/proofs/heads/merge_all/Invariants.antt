-- The arcs that were gone through are merged.
use Rattle.cluster_split.specs.Places.{AreMerged}
use Rattle.cluster_split.proofs.heads.merge_all.Given as goal

abbrev pub invariant-dropped : goal.invariant-dropped
invariant-dropped l = AreMerged l.layout.up l.layout.place l.arcs l.dropped l.k l.fn.tops l.tops
