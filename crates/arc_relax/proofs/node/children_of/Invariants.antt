-- The numbers of the stages behind.
use Rattle.std.proofs.Common.{◌≡◌, get_or, map, take}
use Rattle.arc_relax.proofs.node.children_of.Given as goal

abbrev pub invariant-stages : goal.invariant-stages
invariant-stages l = l.children.items ≡ map (λ c. get_or l.numbers c 0) (take l.stage-index l.stages)
