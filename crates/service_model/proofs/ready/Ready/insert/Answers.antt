use Rattle.std.proofs.Common.{◌≡◌, true, Ordering, nat_cmp, inl, inr, ⊎_elim, sym, ◌∙◌, subst}
use Rattle.std.specs.Prelude.{Contains}
use Rattle.std.specs.Ordering.{is_eq}
use Rattle.std.specs.declared.cmp.Ordering.TheVariants.{Less, Equal, Greater}
use Rattle.std.proofs.lemmas.Bool.{cases_eq, false_from_ne_true}
use Rattle.std.proofs.lemmas.Cmp.{nat_cmp_total}
use Rattle.std.proofs.lemmas.Map.Lookups.{exact_unsigned}
use Rattle.std.proofs.lemmas.Map.Views.{btree_set_contains_iff}
use Rattle.service_model.proofs.ready.Ready.insert.Goals as goal

equal_from : (o : Ordering) → is_eq o ≡ true → o ≡ Equal
equal_from Less h = cc
equal_from Equal h = cc
equal_from Greater h = cc

pub returns : goal.returns
returns c = λ q.
    let after = btree_set_contains_iff nat_cmp_total exact_unsigned c.insert.new.self q in
    let itself = btree_set_contains_iff nat_cmp_total exact_unsigned c.insert.new.self c.args.stage in
    let before = btree_set_contains_iff nat_cmp_total exact_unsigned c.self.inside.stages q in
    let up = c.in_ok-insert.ensures.updates in
    let differs = λ (other : q ≡ c.args.stage → ⊥). up.2 q (false_from_ne_true _ (λ is. other (sym (exact_unsigned c.args.stage q (equal_from (nat_cmp c.args.stage q) is))))) in
    let old : c.self.inside.stages.keys ≡ c.args.self.now = c.self.view_is in (
      λ now. ⊎_elim (λ same. inr same)
          (λ other. inl (subst (λ xs. Contains xs q) old (before.0 (sym (differs other) ∙ after.1 now))))
          (cases_eq q c.args.stage),
      λ was. ⊎_elim (λ same. subst (λ x. Contains c.insert.new.self.keys x) (sym same) (itself.0 up.1))
          (λ other. ⊎_elim (λ earlier. after.0 (differs other ∙ before.1 (subst (λ xs. Contains xs q) (sym old) earlier))) (λ same. absurd (other same)) was)
          (cases_eq q c.args.stage),
    )
