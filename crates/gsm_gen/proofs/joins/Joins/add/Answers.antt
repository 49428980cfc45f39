use Rattle.std.proofs.Common.{refl, sym, ◌∙◌}
use Rattle.std.proofs.lemmas.Bool.{not-true, not-false}
use Rattle.gsm_gen.specs.Joins.{with_arc}
use Rattle.gsm_gen.proofs.JoinFacts.{told_by_ends}
use Rattle.gsm_gen.proofs.joins.Joins.add.Goals as goal

pub returns-in_ok-push-clause-arcs : goal.returns-in_ok-push-clause-arcs
unfolding with_arc
returns-in_ok-push-clause-arcs c =
    let had = c.args.self.now in
    let told = told_by_ends c.args.arc had.arcs had.ends.keys c.min-lower.result c.max-upper.result c.requires.ends c.min-lower.ensures c.max-upper.ensures in
    let absent = not-true _ (sym c.in_ok-insert.ensures.added ∙ c.if-branch.true) in
    rw (sym told ∙ absent) c.in_ok-push.ensures.ok

pub returns-else-branch-clause-arcs : goal.returns-else-branch-clause-arcs
unfolding with_arc
returns-else-branch-clause-arcs c =
    let had = c.args.self.now in
    let told = told_by_ends c.args.arc had.arcs had.ends.keys c.min-lower.result c.max-upper.result c.requires.ends c.min-lower.ensures c.max-upper.ensures in
    let present = not-false _ (sym c.in_ok-insert.ensures.added ∙ c.if-branch.false) in
    rw (sym told ∙ present) refl
