-- The sums that are cleared.
use Rattle.std.proofs.Common.{ℕ, ◌≡◌, ◌<◌, get_or}
use Rattle.table_rules.proofs.sums.clear.Given as goal

abbrev pub invariant-sums : goal.invariant-sums
invariant-sums l = (k : ℕ) → k < l.sum-index → get_or l.sums k 0 ≡ 0
