use Rattle.std.proofs.Common.{◌≡◌, List, length, ap, subst, sym, arith}
use Rattle.std.specs.Prelude.{All, MatchOption}
use Rattle.service_model.specs.declared.stage.SupplyArc.{SupplyArc}
use Rattle.service_model.specs.Plans.{Meets}
use Rattle.range_splits.specs.Breaks.{IsMostBroken, IsMostSoFar}
use Rattle.range_splits.proofs.BrokenFacts.{found_broken}
use Rattle.range_splits.proofs.broken.broken_arc.Goals as goal

pub returns : goal.returns
returns c =
    let n = c.args.network.now in
    let p = c.args.plan.now in
    let all : c.arcs.a ≡ length n.arcs = omega (arith, c.arcs-test.false, c.arcs.auto.a-end, c.len-a-end.ensures, ap (λ (xs : List SupplyArc). length xs) c.arcs-2.ensures.value) in
    subst (λ o. MatchOption o (All (Meets p) n.arcs) (IsMostBroken n p)) (sym c.arc_of.ensures)
    (found_broken n p c.arcs.best (subst (λ k. IsMostSoFar n p k c.arcs.best) all c.arcs.invariant))
