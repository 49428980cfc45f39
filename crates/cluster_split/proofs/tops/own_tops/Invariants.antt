-- The places that were gone through are their own tops.
use Rattle.std.proofs.Common.{ℕ, ◌≡◌, ◌<◌, length}
use Rattle.cluster_split.specs.Tops.{IsTop}
use Rattle.cluster_split.proofs.tops.own_tops.Given as goal

abbrev pub invariant-places : goal.invariant-places
invariant-places l = record {
  long : length l.tops ≡ l.k;
  own : (j : ℕ) → j < l.k → IsTop l.tops j;
}
