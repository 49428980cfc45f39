-- The best of the inbound times that were gone through.
use Rattle.std.proofs.Common.{ℕ, ◌≡◌, ◌<◌, ◌≤◌}
use Rattle.tree_tables.specs.Sums.{local_at}
use Rattle.tree_tables.proofs.times.best_inbound.Given as goal

abbrev pub invariant-times : goal.invariant-times
invariant-times l = record {
  not_below : l.from ≤ l.best;
  not_above : l.best < l.inbound;
  sum : l.lowest ≡ local_at l.sums l.best l.outbound;
  least : (i : ℕ) → l.from ≤ i → i < l.inbound → l.lowest ≤ local_at l.sums i l.outbound;
}
