use Rattle.std.proofs.Common.{◌≡◌, replicate, [], List, ℕ}
use Rattle.service_model.proofs.links.empty_lists.Given as goal

abbrev pub invariant-loop-stage : goal.invariant-loop-stage
invariant-loop-stage l = l.lists.items ≡ (let none : List ℕ = [] in replicate l._stage none)
