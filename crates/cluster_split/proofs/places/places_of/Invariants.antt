-- The stages that were gone through have their places.
use Rattle.std.proofs.Common.{ℕ, ◌≡◌, ◌<◌, length, get_or}
use Rattle.cluster_split.proofs.places.places_of.Given as goal

abbrev pub invariant-seen : goal.invariant-seen
invariant-seen l = record {
  long : length l.place ≡ length l.seen;
  each : (j : ℕ) → j < l.k → get_or l.place (get_or l.seen j 0) 0 ≡ j;
}
