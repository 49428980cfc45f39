use Rattle.std.proofs.Common.{Bool, ℕ, List, refl, sym, ◌∙◌, subst}
use Rattle.std.specs.Prelude.{IfOk, IsTrue, ◌↔◌}
use Rattle.std.proofs.lemmas.Result.{IfOk-weaker}
use Rattle.split_rules.specs.Relaxed.{MeetsBelow, IsRelaxedOf}
use Rattle.split_rules.proofs.relaxed.is_relaxed.Goals as goal

pub returns : goal.returns
returns c =
    let n = c.args.network.now in
    let tables = c.args.tables.now in
    let next = c.args.next.now in
    let p = c.args.plan.now in
    IfOk-weaker c.meets_below.result
    (λ (met : Bool). IsTrue met ↔ MeetsBelow n tables next.node.now.roots p)
    (λ (is : Bool). IsTrue is ↔ IsRelaxedOf n tables next.range.now next.node.now.roots next.leaf.bound p)
    (λ (met : Bool) (known : IsTrue met ↔ MeetsBelow n tables next.node.now.roots p). (
      λ yes'. record { stages = c.if-not-fits_all.ensures.0 refl; arcs = known.0 yes'; cost = sym c.relaxed_cost.ensures ∙ c.if-relaxed_cost-next.false },
      λ is. known.1 is.arcs,
    ))
    (subst (λ (roots : List ℕ). IfOk c.meets_below.result (λ met. IsTrue met ↔ MeetsBelow n tables roots p)) c.as_slice.ensures c.meets_below.ensures)
