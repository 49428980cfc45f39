-- One outbound time more.
use Rattle.std.proofs.Common.{ℕ, length, subst, arith}
use Rattle.std.proofs.lemmas.Grind.{common_steps}
use Rattle.tree_tables.specs.Leasts.{IsLeast}
use Rattle.tree_tables.specs.Sums.{local_at}
use Rattle.tree_tables.proofs.ListFacts.{pushed}
use Rattle.tree_tables.proofs.values.down_values.Goals as goal

pub times-preserved : goal.times-preserved
times-preserved c = record {
  long = grind (arith, common_steps);
  each = pushed (λ o m. IsLeast (λ i. local_at c.args.sums.now i o) c.args.floor (length c.args.sums.now.down) m) c.args.least c.times.outbound
      c.least_inbound.result c.times.values _ c.in_ok-push.ensures.ok c.times.auto.outbound c.times.invariant.long c.times.invariant.each
      (subst (λ (to : ℕ). IsLeast (λ i. local_at c.args.sums.now i c.times.outbound) c.args.floor to c.least_inbound.result) c.times-to.ensures.down
      c.least_inbound.ensures);
}
