use Rattle.std.proofs.Common.{◌≡◌, replicate, [], List, ℕ}
use Rattle.demand_tables.proofs.demand.empty_lists.Given as goal

abbrev pub invariant-stages : goal.invariant-stages
invariant-stages l = l.lists ≡ (let none : List ℕ = [] in replicate l._stage none)
