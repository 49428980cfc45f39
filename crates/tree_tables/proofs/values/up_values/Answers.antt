-- One inbound time more.
use Rattle.std.proofs.Common.{arith}
use Rattle.std.proofs.lemmas.Grind.{common_steps}
use Rattle.tree_tables.specs.Leasts.{IsLeast}
use Rattle.tree_tables.specs.Sums.{local_at}
use Rattle.tree_tables.proofs.ListFacts.{pushed}
use Rattle.tree_tables.proofs.values.up_values.Goals as goal

pub times-preserved : goal.times-preserved
times-preserved c = record {
  long = grind (arith, common_steps);
  each = pushed (λ i m. IsLeast (λ o. local_at c.args.sums.now i o) c.args.least c.args.end m) c.args.floor c.times.inbound
      c.least_outbound.result c.times.values _ c.in_ok-push.ensures.ok c.times.auto.inbound c.times.invariant.long c.times.invariant.each
      c.least_outbound.ensures;
}
