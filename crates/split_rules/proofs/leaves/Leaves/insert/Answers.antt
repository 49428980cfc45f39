use Rattle.std.proofs.Common.{◌≡◌, inl, inr, ⊎_elim, sym, ◌∙◌, subst}
use Rattle.std.specs.Prelude.{Contains}
use Rattle.std.proofs.lemmas.Map.Views.{btree_set_contains_iff}
use Rattle.split_rules.proofs.LeafFacts.{leaf_total, leaf_exact, same_or_not, differs}
use Rattle.split_rules.proofs.leaves.Leaves.insert.Goals as goal

pub returns-clause-ok : goal.returns-clause-ok
returns-clause-ok c = λ q.
    let after = btree_set_contains_iff leaf_total leaf_exact c.insert.new.self q in
    let itself = btree_set_contains_iff leaf_total leaf_exact c.insert.new.self c.args.leaf in
    let before = btree_set_contains_iff leaf_total leaf_exact c.self.inside.leaves q in
    let up = c.in_ok-insert.ensures.updates in
    let kept = λ (other : q ≡ c.args.leaf → ⊥). up.2 q (differs c.args.leaf q other) in
    let old : c.self.inside.leaves.keys ≡ c.args.self.now = c.self.view_is in (
      λ now. ⊎_elim (λ same. inr same)
          (λ other. inl (subst (λ xs. Contains xs q) old (before.0 (sym (kept other) ∙ after.1 now))))
          (same_or_not q c.args.leaf),
      λ was. ⊎_elim (λ same. subst (λ x. Contains c.insert.new.self.keys x) (sym same) (itself.0 up.1))
          (λ other. ⊎_elim (λ earlier. after.0 (kept other ∙ before.1 (subst (λ xs. Contains xs q) (sym old) earlier))) (λ same. absurd (other same)) was)
          (same_or_not q c.args.leaf),
    )
