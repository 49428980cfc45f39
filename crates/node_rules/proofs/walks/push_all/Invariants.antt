-- The numbers behind are on the stack, the last first.
use Rattle.std.proofs.Common.{◌≡◌, ◌++◌, drop, reverse}
use Rattle.node_rules.proofs.walks.push_all.Given as goal

abbrev pub invariant-numbers : goal.invariant-numbers
invariant-numbers l = l.stack.items ≡ l.initial.stack.items ++ reverse (drop l.k l.numbers)
