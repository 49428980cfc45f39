-- A leaf that gives way to two others.
use Rattle.std.proofs.Common.{◌≡◌, ◌≢◌, ◌⊎◌, ◌↔◌, zero, suc, List, [], ◌∷◌, sym, ◌∙◌, subst, inl, inr, ⊎_elim, arith}
use Rattle.std.specs.Prelude.{All, Contains, Option, Some, None, IfSome, IfNone}
use Rattle.open_leaves.specs.declared.leaf.Leaf.{Leaf}
use Rattle.open_leaves.specs.Leaves.{IsBefore, IsWithout}
use Rattle.range_splits.specs.Open.{IsLeastOf}
use Rattle.range_branch.specs.Progress.{AreReplaced}

not_itself : (a : Leaf) → ¬ IsBefore a a
not_itself a before = ⊎_elim (λ low. omega (arith, low)) (λ low. let late = low.1 in omega (arith, late)) before

in_front : (x : Leaf) (rest : List Leaf) (q : Leaf) → Contains (x ∷ rest) q → (x ≡ q) ⊎ Contains rest q
in_front x rest q (zero, within, is) = inl is
in_front x rest q (suc k, within, is) = inr (k, omega (arith, within), is)

behind : (x : Leaf) (rest : List Leaf) (q : Leaf) → Contains rest q → Contains (x ∷ rest) q
behind x rest q (k, within, is) = (suc k, omega (arith, within), is)

-- all of a list that has it at a place
at_all : (P : Leaf → Type 0) (xs : List Leaf) (q : Leaf) → All P xs → Contains xs q → P q
at_all P xs q all (k, within, is) = subst P is (all k q within)

-- the first of the leaves is the least
is_first : (x leaf : Leaf) (rest : List Leaf) → IsLeastOf (x ∷ rest) leaf → All (IsBefore x) rest → x ≡ leaf
is_first x leaf rest least before = ⊎_elim
    (λ is. is)
    (λ there. absurd (least.least 0 x (omega arith) (at_all (IsBefore x) rest leaf before there)))
    (in_front x rest leaf least.there)

-- what is left is what was there, but for the least
rest_is : (x leaf : Leaf) (rest : List Leaf) (q : Leaf) → x ≡ leaf → All (IsBefore x) rest → Contains rest q ↔ (Contains (x ∷ rest) q × (q ≢ leaf))
rest_is x leaf rest q is before = (
  λ there. (behind x rest q there, λ same. not_itself x (subst (IsBefore x) (same ∙ sym is) (at_all (IsBefore x) rest q before there))),
  λ both. ⊎_elim (λ same. absurd (both.1 (sym same ∙ is))) (λ there. there) (in_front x rest q both.0),
)

pub replaced : (old rest mid new : List Leaf) (x leaf left right : Leaf) → old ≡ x ∷ rest → IsLeastOf old leaf → All (IsBefore x) rest
    → ((q : Leaf) → Contains mid q ↔ (Contains rest q ⊎ (q ≡ left))) → ((q : Leaf) → Contains new q ↔ (Contains mid q ⊎ (q ≡ right)))
    → AreReplaced old new leaf left right
replaced old rest mid new x leaf left right parts least before one two =
    let first = is_first x leaf rest (subst (λ xs. IsLeastOf xs leaf) parts least) before in
    λ q.
    let kept = rest_is x leaf rest q first before in (
      λ now. ⊎_elim
          (λ inner. ⊎_elim
          (λ there. let both = kept.0 there in inl (subst (λ xs. Contains xs q) (sym parts) both.0, both.1))
          (λ is. inr (inl is)) ((one q).0 inner))
          (λ is. inr (inr is)) ((two q).0 now),
      λ was. ⊎_elim
          (λ both. (two q).1 (inl ((one q).1 (inl (kept.1 (subst (λ xs. Contains xs q) parts both.0, both.1))))))
          (λ new. ⊎_elim (λ is. (two q).1 (inl ((one q).1 (inr is)))) (λ is. (two q).1 (inr is)) new) was,
    )

pub none_there : (leaf : Leaf) → ¬ Contains [] leaf
none_there leaf (k, within, is) = omega (arith, within)

-- what was taken, since something was there
pub taken : (o : Option Leaf) (old rest : List Leaf) (leaf : Leaf) → IfSome o (λ x. IsWithout old rest x) → IfSome o (λ x. All (IsBefore x) rest)
    → IfNone o (let none : List Leaf = [] in old ≡ none) → Contains old leaf → (x : Leaf) × (old ≡ x ∷ rest) × All (IsBefore x) rest
taken None old rest leaf some least none there = absurd (none_there leaf (subst (λ xs. Contains xs leaf) none there))
taken (Some x) old rest leaf some least none there = (x, some, least)
