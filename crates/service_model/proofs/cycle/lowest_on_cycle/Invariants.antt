use Rattle.std.proofs.Common.{ℕ, ◌<◌}
use Rattle.service_model.specs.Walks.{ReachesItself}
use Rattle.service_model.proofs.cycle.lowest_on_cycle.Given as goal

abbrev pub invariant-loop-stage : goal.invariant-loop-stage
invariant-loop-stage l = (k : ℕ) → k < l.stage → ¬ ReachesItself l.links.arcs.now k
