-- The first place of the least value so far.
use Rattle.std.proofs.Common.{ℕ, ◌<◌, ◌≤◌, get_or}
use Rattle.tree_tables.proofs.places.least_place.Given as goal

abbrev pub invariant-places : goal.invariant-places
invariant-places l = record {
  not_before : l.from ≤ l.place;
  not_after : l.place < l.k;
  least : (k : ℕ) → l.from ≤ k → k < l.k → get_or l.values l.place 0 ≤ get_or l.values k 0;
}
