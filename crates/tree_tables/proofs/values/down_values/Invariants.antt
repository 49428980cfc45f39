-- The values at the outbound times that were gone through.
use Rattle.std.proofs.Common.{ℕ, ◌≡◌, ◌-◌, ◌<◌, ◌≤◌, length, get_or}
use Rattle.tree_tables.specs.Leasts.{IsLeast}
use Rattle.tree_tables.specs.Sums.{local_at}
use Rattle.tree_tables.proofs.values.down_values.Given as goal

abbrev pub invariant-times : goal.invariant-times
invariant-times l = record {
  long : length l.values ≡ l.outbound - l.least;
  each : (o : ℕ) → l.least ≤ o → o < l.outbound → IsLeast (λ i. local_at l.sums i o) l.floor (length l.sums.down) (get_or l.values (o - l.least) 0);
}
