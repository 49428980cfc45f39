-- The items behind, from the last on.
use Rattle.std.proofs.Common.{◌≡◌, reverse, drop}
use Rattle.tree_order.proofs.picks.reversed.Given as goal

abbrev pub invariant-items : goal.invariant-items
invariant-items l = l.back ≡ reverse (drop l.k l.items)
