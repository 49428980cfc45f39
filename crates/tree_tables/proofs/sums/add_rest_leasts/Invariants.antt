-- The least so far, the entries that are done, and those ahead, from the last entry down.
use Rattle.std.proofs.Common.{ℕ, ◌≡◌, ◌+◌, ◌-◌, ◌<◌, ◌≤◌, length, get_or, drop}
use Rattle.service_model.specs.LocalSums.{capped, least_of}
use Rattle.tree_tables.proofs.sums.add_rest_leasts.Given as goal

abbrev pub invariant-times : goal.invariant-times
invariant-times l = record {
  least_so_far : l.least ≡ least_of (drop (l.o + l.shift - l.floor) l.values);
  done : (k : ℕ) → l.o ≤ k → k < length l.sums → get_or l.sums k 0 ≡ capped (get_or l.initial.sums k 0 + least_of (drop (k + l.shift - l.floor) l.values));
  ahead : (k : ℕ) → k < l.o → get_or l.sums k 0 ≡ get_or l.initial.sums k 0;
}
