use Rattle.std.proofs.Common.{ℕ, ◌≡◌, ◌<◌, [], length, slice_index, take}
use Rattle.service_model.specs.Waits.{missing}
use Rattle.service_model.proofs.waits.waits_of.Given as goal

abbrev pub invariant-loop-arc : goal.invariant-loop-arc
invariant-loop-arc l = record {
  long : length l.waits ≡ l.stages;
  counts : (j : ℕ) → j < l.stages → slice_index l.waits j ≡ missing (take l.arc-index l.arcs) [] j;
}
