-- The least so far, the sums that are done, and those ahead.
use Rattle.std.proofs.Common.{ℕ, ◌≡◌, ◌+◌, ◌-◌, ◌<◌, ◌≤◌, get_or, take}
use Rattle.service_model.specs.LocalSums.{capped, least_of}
use Rattle.table_rules.proofs.leasts.add_leasts_up_to.Given as goal

abbrev pub invariant-times : goal.invariant-times
invariant-times l = record {
  least_so_far : l.least ≡ least_of (take (l.time - l.start) l.values);
  done : (k : ℕ) → k < l.time → get_or l.sums k 0 ≡ capped (get_or l.initial.sums k 0 + least_of (take (k + 1 - l.start) l.values));
  ahead : (k : ℕ) → l.time ≤ k → get_or l.sums k 0 ≡ get_or l.initial.sums k 0;
}
