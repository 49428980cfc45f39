-- No way is left, and the stages that were gone through are seen.
use Rattle.std.proofs.Common.{ℕ, ◌<◌, length}
use Rattle.std.specs.Prelude.{Contains}
use Rattle.tree_order.specs.Walks.{Between}
use Rattle.tree_order.proofs.walk.Walk.over.Given as goal

abbrev pub invariant-roots : goal.invariant-roots
invariant-roots l = record {
  between : Between l.links (length l.walk.seen) l.walk;
  lower : (j : ℕ) → j < l.root → Contains l.walk.seen j;
}
