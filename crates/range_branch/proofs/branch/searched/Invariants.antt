use Rattle.std.proofs.Common.{◌≡◌, ◌+◌, ◌-◌, length}
use Rattle.range_branch.specs.Progress.{IsProgress}
use Rattle.range_branch.proofs.branch.searched.Given as goal

abbrev pub invariant-splits : goal.invariant-splits
invariant-splits g l =
    IsProgress l.given.network.now l.given.forest.now l.given.budget l.pool l.progress × (l.steps ≡ l.fn.steps + length l.pool)

abbrev pub decreases-splits : goal.decreases-splits
decreases-splits g l = l.given.budget - length l.progress.nodes
