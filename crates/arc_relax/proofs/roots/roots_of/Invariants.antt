-- The numbers of the roots behind.
use Rattle.std.proofs.Common.{◌≡◌, ◌==◌, get_or, map, take}
use Rattle.std.specs.Prelude.{filter}
use Rattle.arc_relax.proofs.roots.roots_of.Given as goal

abbrev pub invariant-stages : goal.invariant-stages
invariant-stages l =
    l.roots ≡ map (λ j. get_or l.numbers j 0) (filter (λ j. get_or l.parent j 0 == j) (take l.stage-index l.order))
