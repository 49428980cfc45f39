-- The values at the inbound times that were gone through.
use Rattle.std.proofs.Common.{ℕ, ◌≡◌, ◌-◌, ◌<◌, ◌≤◌, length, get_or}
use Rattle.tree_tables.specs.Leasts.{IsLeast}
use Rattle.tree_tables.specs.Sums.{local_at}
use Rattle.tree_tables.proofs.values.up_values.Given as goal

abbrev pub invariant-times : goal.invariant-times
invariant-times l = record {
  long : length l.values ≡ l.inbound - l.floor;
  each : (i : ℕ) → l.floor ≤ i → i < l.inbound → IsLeast (λ o. local_at l.sums i o) l.least l.end (get_or l.values (i - l.floor) 0);
}
