-- One outbound time more.
use Rattle.std.proofs.Common.{◌+◌, subst, sym}
use Rattle.tree_tables.specs.Leasts.{IsLeastPair}
use Rattle.tree_tables.specs.Sums.{local_at}
use Rattle.tree_tables.proofs.LeastFacts.{pair_more}
use Rattle.tree_tables.proofs.local.LocalSums.least_pair.Goals as goal

pub times-preserved : goal.times-preserved
times-preserved c =
    subst (IsLeastPair (local_at c.args.self.now) c.args.from c.args.to c.args.least (c.times.outbound + 1)) (sym c.min-lowest.ensures)
    (pair_more (local_at c.args.self.now) c.args.from c.args.to c.args.least c.times.outbound c.times.lowest _ c.times.invariant c.times.auto.outbound
    c.least_inbound.ensures)
