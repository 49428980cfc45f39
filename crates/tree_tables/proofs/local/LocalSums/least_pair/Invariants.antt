-- The least over the outbound times that were gone through.
use Rattle.tree_tables.specs.Leasts.{IsLeastPair}
use Rattle.tree_tables.specs.Sums.{local_at}
use Rattle.tree_tables.proofs.local.LocalSums.least_pair.Given as goal

abbrev pub invariant-times : goal.invariant-times
invariant-times l = IsLeastPair (local_at l.self) l.from l.to l.least l.outbound l.lowest
