-- The order of leaves is total, and equal leaves are one.
use Rattle.std.proofs.Common.{◌≡◌, ◌⊎◌, true, false, Ordering, nat_cmp, inl, inr, ⊎_elim, ap, sym, ◌∙◌}
use Rattle.std.specs.Ordering.{ordering_then, is_eq}
use Rattle.std.specs.Cmp.{IsTotalOrder}
use Rattle.std.specs.declared.cmp.Ordering.TheVariants.{Less, Equal, Greater}
use Rattle.std.proofs.lemmas.Bool.{cases_eq, false_from_ne_true}
use Rattle.std.proofs.lemmas.Cmp.{nat_cmp_total, on_total, then_total}
use Rattle.std.proofs.lemmas.Map.Lookups.{exact_unsigned}
use Rattle.split_rules.specs.declared.leaves.Leaf.{Leaf}

abbrev pub leaf_cmp : Leaf → Leaf → Ordering
leaf_cmp a b = ordering_then (nat_cmp a.bound b.bound) (nat_cmp a.node b.node)

pub leaf_total : IsTotalOrder leaf_cmp
leaf_total = then_total (on_total (λ (l : Leaf). l.bound) nat_cmp_total) (on_total (λ (l : Leaf). l.node) nat_cmp_total)

same_leaf : (a b : Leaf) → a.bound ≡ b.bound → a.node ≡ b.node → a ≡ b
same_leaf a b bound node = ap (λ k. record a { bound = k }) bound ∙ ap (λ k. record b { node = k }) node

both_equal : (o p : Ordering) → ordering_then o p ≡ Equal → (o ≡ Equal) × (p ≡ Equal)
both_equal Less p is = absurd cc
both_equal Equal p is = (cc, is)
both_equal Greater p is = absurd cc

pub leaf_exact : (a b : Leaf) → leaf_cmp a b ≡ Equal → a ≡ b
leaf_exact a b is =
    let parts = both_equal (nat_cmp a.bound b.bound) (nat_cmp a.node b.node) is in
    same_leaf a b (exact_unsigned a.bound b.bound parts.0) (exact_unsigned a.node b.node parts.1)

pub same_or_not : (a b : Leaf) → (a ≡ b) ⊎ (a ≡ b → ⊥)
same_or_not a b = ⊎_elim
    (λ bound. ⊎_elim (λ node. inl (same_leaf a b bound node)) (λ other. inr (λ is. other (ap (λ (l : Leaf). l.node) is))) (cases_eq a.node b.node))
    (λ other. inr (λ is. other (ap (λ (l : Leaf). l.bound) is)))
    (cases_eq a.bound b.bound)

equal_from : (o : Ordering) → is_eq o ≡ true → o ≡ Equal
equal_from Less h = cc
equal_from Equal h = cc
equal_from Greater h = cc

-- the order tells another leaf apart
pub differs : (a b : Leaf) → (b ≡ a → ⊥) → is_eq (leaf_cmp a b) ≡ false
differs a b other = false_from_ne_true _ (λ is. other (sym (leaf_exact a b (equal_from (leaf_cmp a b) is))))
