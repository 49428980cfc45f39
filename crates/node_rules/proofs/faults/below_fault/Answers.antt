use Rattle.std.proofs.Common.{◌<◌, length, sym, ◌∙◌, subst}
use Rattle.std.specs.Prelude.{All}
use Rattle.node_rules.specs.Walks.{IsWalk}
use Rattle.node_rules.proofs.FitFacts.{below_there}
use Rattle.node_rules.proofs.faults.below_fault.Goals as goal

pub all_fit-fit-requires-clause-there : goal.all_fit-fit-requires-clause-there
all_fit-fit-requires-clause-there c =
    let walk = subst (IsWalk c.args.tables.now c.args.roots.now) c.in-Some.is c.in_ok-met.ensures in
    subst (All (λ k. k < length c.args.tables.now)) (sym (c.as_slice.ensures ∙ walk.0))
    (below_there c.args.network.now c.args.tables.now c.args.roots.now c.requires.sound c.requires.there)
