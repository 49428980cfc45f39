-- As many empty lists as were counted.
use Rattle.std.proofs.Common.{◌≡◌, List, ℕ, [], replicate}
use Rattle.tree_order.proofs.links.empty_lists.Given as goal

abbrev pub invariant-loop-list : goal.invariant-loop-list
invariant-loop-list l = let none : List ℕ = [] in l.lists.items ≡ replicate l._list none
