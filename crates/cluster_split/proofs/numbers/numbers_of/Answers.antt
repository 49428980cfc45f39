-- The next stage gets the number of its head.
use Rattle.std.proofs.Common.{ℕ, ◌+◌, ◌∙◌, List, [], ◌∷◌, ◌++◌, ap, subst, sym}
use Rattle.cluster_split.proofs.NumberFacts.{Numbering, numbering_more}
use Rattle.cluster_split.proofs.numbers.numbers_of.Goals as goal

pub stages-preserved : goal.stages-preserved
stages-preserved c =
    let low = c.requires.low c.stages.x 0 c.stages-test.true in
    let pushed = c.in_ok-push.ensures.ok ∙ ap (λ v. c.stages.numbers ++ v ∷ []) (sym (c.get.ensures.whatever_else 0)) in
    subst (λ (v : List ℕ). Numbering c.args.heads.now (c.stages.x + 1) c.give-last.result c.give-last.new.given v) (sym pushed)
    (numbering_more c.args.heads.now c.stages.x c.stages.last c.give-last.result c.stages.given c.give-last.new.given c.stages.numbers c.stages-test.true low c.stages.invariant c.give-last.ensures)
