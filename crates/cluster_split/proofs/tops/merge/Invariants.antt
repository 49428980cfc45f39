-- Two tops above the two places; what lies between is merged.
use Rattle.std.proofs.Common.{◌+◌}
use Rattle.cluster_split.proofs.MergeFacts.{Merging}
use Rattle.cluster_split.proofs.tops.merge.Given as goal

abbrev pub invariant-climb : goal.invariant-climb
invariant-climb l = Merging l.up l.fn.tops l.tops l.one l.other l.a l.b

abbrev pub decreases-climb : goal.decreases-climb
decreases-climb l = l.a + l.b
