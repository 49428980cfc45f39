use Rattle.std.proofs.Common.{inr, subst, ⊎_elim}
use Rattle.std.specs.Prelude.{Contains}
use Rattle.range_branch.proofs.ReplaceFacts.{none_there}
use Rattle.range_branch.proofs.first.one_leaf.Goals as goal

pub returns : goal.returns
returns c = λ q.
    let both = c.in_ok-insert.ensures.ok q in (
      λ there. ⊎_elim (λ none. absurd (none_there q (subst (λ xs. Contains xs q) c.new-leaves.ensures none))) (λ is. is) (both.0 there),
      λ is. both.1 (inr is),
    )
