use Rattle.std.proofs.Common.{◌≡◌, ℕ, ◌<◌, length, get_or, take, None}
use Rattle.stock_report.specs.Explanations.{split_of_node}
use Rattle.stock_report.proofs.fates.first_splits.Given as goal

abbrev pub invariant-splits : goal.invariant-splits
invariant-splits l = record {
  length : length l.firsts ≡ l.nodes;
  firsts : (k : ℕ) → k < l.nodes → get_or l.firsts k None ≡ split_of_node (take l.split-index l.splits) k;
}
