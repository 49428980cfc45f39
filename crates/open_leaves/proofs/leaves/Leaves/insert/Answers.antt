use Rattle.std.proofs.Common.{◌≡◌, true, Ordering, inl, inr, ⊎_elim, sym, ◌∙◌, subst}
use Rattle.std.specs.Prelude.{Contains}
use Rattle.std.specs.Ordering.{is_eq}
use Rattle.std.specs.declared.cmp.Ordering.TheVariants.{Less, Equal, Greater}
use Rattle.std.proofs.lemmas.Bool.{false_from_ne_true}
use Rattle.std.proofs.lemmas.Map.Views.{btree_set_contains_iff}
use Rattle.open_leaves.proofs.LeafFacts.{leaf_cmp, leaf_total, leaf_exact, same_or_not}
use Rattle.open_leaves.proofs.leaves.Leaves.insert.Goals as goal

equal_from : (o : Ordering) → is_eq o ≡ true → o ≡ Equal
equal_from Less h = cc
equal_from Equal h = cc
equal_from Greater h = cc

pub returns-clause-ok : goal.returns-clause-ok
returns-clause-ok c = λ q.
    let after = btree_set_contains_iff leaf_total leaf_exact c.insert.new.self q in
    let itself = btree_set_contains_iff leaf_total leaf_exact c.insert.new.self c.args.leaf in
    let before = btree_set_contains_iff leaf_total leaf_exact c.self.inside.leaves q in
    let up = c.in_ok-insert.ensures.updates in
    let differs = λ (other : q ≡ c.args.leaf → ⊥). up.2 q (false_from_ne_true _ (λ is. other (sym (leaf_exact c.args.leaf q (equal_from (leaf_cmp c.args.leaf q) is))))) in
    let old : c.self.inside.leaves.keys ≡ c.args.self.now = c.self.view_is in (
      λ now. ⊎_elim (λ same. inr same)
          (λ other. inl (subst (λ xs. Contains xs q) old (before.0 (sym (differs other) ∙ after.1 now))))
          (same_or_not q c.args.leaf),
      λ was. ⊎_elim (λ same. subst (λ x. Contains c.insert.new.self.keys x) (sym same) (itself.0 up.1))
          (λ other. ⊎_elim (λ earlier. after.0 (differs other ∙ before.1 (subst (λ xs. Contains xs q) (sym old) earlier))) (λ same. absurd (other same)) was)
          (same_or_not q c.args.leaf),
    )
