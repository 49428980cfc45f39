use Rattle.std.proofs.Common.{ℕ, ◌≡◌, ◌<◌, slice_index}
use Rattle.std.specs.Prelude.{Contains}
use Rattle.service_model.proofs.waits.first_ready.Given as goal

abbrev pub invariant-loop-stage : goal.invariant-loop-stage
invariant-loop-stage l = record {
  only : (j : ℕ) → Contains l.ready j → (j < l.stage) × (slice_index l.waits j ≡ 0);
  all : (j : ℕ) → j < l.stage → slice_index l.waits j ≡ 0 → Contains l.ready j;
}
