-- The least so far, the sums that are done, and those ahead, from the last time down.
use Rattle.std.proofs.Common.{ℕ, ◌≡◌, ◌+◌, ◌-◌, ◌<◌, ◌≤◌, length, get_or, drop}
use Rattle.service_model.specs.LocalSums.{capped, least_of}
use Rattle.table_rules.proofs.leasts.add_leasts_from.Given as goal

abbrev pub invariant-times : goal.invariant-times
invariant-times l = record {
  least_so_far : l.least ≡ least_of (drop (l.time + l.shift - l.start) l.values);
  done : (k : ℕ) → l.time ≤ k → k < length l.sums → get_or l.sums k 0 ≡ capped (get_or l.initial.sums k 0 + least_of (drop (k + l.shift - l.start) l.values));
  ahead : (k : ℕ) → k < l.time → get_or l.sums k 0 ≡ get_or l.initial.sums k 0;
}
