-- No value that was gone through is above its sum.
use Rattle.std.proofs.Common.{ℕ, ◌+◌, ◌<◌, ◌≤◌, get_or}
use Rattle.table_rules.proofs.columns.are_below.Given as goal

abbrev pub invariant-times : goal.invariant-times
invariant-times l = (k : ℕ) → k < l.k → get_or l.values k 0 ≤ get_or l.cost k 0 + get_or l.down k 0 + l.up
