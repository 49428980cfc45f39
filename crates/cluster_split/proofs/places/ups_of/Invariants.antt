-- The places that were gone through have their parents' places.
use Rattle.std.proofs.Common.{ℕ, ◌≡◌, ◌<◌, length, get_or}
use Rattle.cluster_split.proofs.places.ups_of.Given as goal

abbrev pub invariant-seen : goal.invariant-seen
invariant-seen l = record {
  long : length l.up ≡ l.k;
  each : (j : ℕ) → j < l.k → get_or l.up j 0 ≡ get_or l.place (get_or l.parent (get_or l.seen j 0) 0) 0;
}
