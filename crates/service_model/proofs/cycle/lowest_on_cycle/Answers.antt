use Rattle.std.proofs.Common.{arith, subst, ⊎_elim}
use Rattle.std.proofs.lemmas.Bool.{cases_lt, both_ways}
use Rattle.service_model.specs.Walks.{ReachesItself}
use Rattle.service_model.proofs.cycle.lowest_on_cycle.Goals as goal

pub loop-stage-preserved : goal.loop-stage-preserved
loop-stage-preserved c = λ k low cycle. ⊎_elim
    (λ earlier. c.loop-stage.invariant k earlier cycle)
    (λ here. both_ways _ c.if-branch.false (c.in_ok-reaches_itself.ensures.1 (subst (λ n. ReachesItself c.args.links.now.arcs.now n) (omega (arith, low, here)) cycle)))
    (cases_lt k c.loop-stage.stage)

pub returns : goal.returns
returns c = λ j within cycle. c.loop-stage.invariant j (omega (arith, within)) cycle
