use Rattle.std.proofs.Common.{◌≡◌, sym, ◌∙◌, subst, ⊎_elim}
use Rattle.std.specs.Prelude.{Contains}
use Rattle.std.proofs.lemmas.Bool.{both_ways}
use Rattle.std.proofs.lemmas.Map.Views.{btree_set_contains_iff}
use Rattle.split_rules.proofs.LeafFacts.{leaf_total, leaf_exact, same_or_not, differs}
use Rattle.split_rules.proofs.leaves.Leaves.remove.Goals as goal

pub returns : goal.returns
returns c = λ q.
    let after = btree_set_contains_iff leaf_total leaf_exact c.remove.new.self q in
    let itself = btree_set_contains_iff leaf_total leaf_exact c.remove.new.self c.args.leaf in
    let before = btree_set_contains_iff leaf_total leaf_exact c.self.inside.leaves q in
    let down = c.remove.ensures.updates in
    let kept = λ (other : q ≡ c.args.leaf → ⊥). down.2 q (differs c.args.leaf q other) in
    let old : c.self.inside.leaves.keys ≡ c.args.self.now = c.self.view_is in (
      λ now. ⊎_elim
          (λ same. absurd (both_ways _ down.1 (itself.1 (subst (λ x. Contains c.remove.new.self.keys x) same now))))
          (λ other. (subst (λ xs. Contains xs q) old (before.0 (sym (kept other) ∙ after.1 now)), other))
          (same_or_not q c.args.leaf),
      λ was. after.0 (kept was.1 ∙ before.1 (subst (λ xs. Contains xs q) (sym old) was.0)),
    )
