-- The least so far, the entries that are done, and those ahead.
use Rattle.std.proofs.Common.{ℕ, ◌≡◌, ◌+◌, ◌-◌, ◌<◌, ◌≤◌, get_or, take}
use Rattle.service_model.specs.LocalSums.{capped, least_of}
use Rattle.tree_tables.proofs.sums.add_front_leasts.Given as goal

abbrev pub invariant-times : goal.invariant-times
invariant-times l = record {
  least_so_far : l.least ≡ least_of (take (l.i - l.shift) l.values);
  done : (k : ℕ) → k < l.i → get_or l.sums k 0 ≡ capped (get_or l.initial.sums k 0 + least_of (take (k + 1 - l.shift) l.values));
  ahead : (k : ℕ) → l.i ≤ k → get_or l.sums k 0 ≡ get_or l.initial.sums k 0;
}
