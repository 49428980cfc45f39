-- Numbers picked by a rule, rising: one number more.
use Rattle.std.proofs.Common.{ℕ, ◌≡◌, ◌≢◌, ◌+◌, ◌<◌, Bool, true, false, List, [], ◌∷◌, ◌++◌, length, get_or, set, replicate, sym, ap, ◌∙◌, subst, inl, inr, ⊎_elim, arith}
use Rattle.std.specs.Prelude.{Contains, ◌⊎◌}
use Rattle.std.proofs.lemmas.Bool.{cases_eq, cases_lt, cases_Bool, MatchBool-at_true, MatchBool-at_false}
use Rattle.std.proofs.lemmas.List.{length-set, get_or-set_same, get_or-set_other, get_or-replicate, length-replicate}
use Rattle.std.proofs.lemmas.List.Elements.{All-push, Contains-push, Contains-append_left, Contains-push_cases}
use Rattle.std.proofs.lemmas.List.Quantifiers.{all_pairs_push}
use Rattle.service_model.specs.Forests.{IsChildOf, ArePicked, ArePickedFor}
use Rattle.tree_order.specs.Picks.{PutsIn, PushesIf}

pub picked_none : (P : ℕ → Type 0) → ArePicked P 0 []
picked_none P = record {
  rising = λ i j d less inside. absurd (omega arith);
  low = λ k d inside. absurd (omega arith);
  only = λ j h. absurd (omega (arith, h.1));
  all = λ j low. absurd (omega arith);
}

pub picked_push : (P : ℕ → Type 0) (n : ℕ) (xs : List ℕ) → ArePicked P n xs → P n → ArePicked P (n + 1) (xs ++ n ∷ [])
picked_push P n xs old here = record {
  rising = all_pairs_push (λ i j. i < j) xs n old.rising old.low;
  low = All-push (λ j. j < n + 1) xs n (λ k d inside. omega (arith, old.low k d inside)) (omega arith);
  only = λ j h. ⊎_elim (old.only j) (λ same. subst P same here) (Contains-push_cases xs n j h);
  all = λ j low p. ⊎_elim
      (λ less. Contains-append_left xs (n ∷ []) j (old.all j less p))
      (λ last. let is : n ≡ j = omega (arith, low, last) in subst (λ v. Contains (xs ++ n ∷ []) v) is (Contains-push xs n))
      (cases_lt j n);
}

pub picked_same : (P : ℕ → Type 0) (n : ℕ) (xs : List ℕ) → ArePicked P n xs → (P n → ⊥) → ArePicked P (n + 1) xs
picked_same P n xs old not_here = record {
  rising = old.rising;
  low = λ k d inside. omega (arith, old.low k d inside);
  only = old.only;
  all = λ j low p. ⊎_elim
      (λ less. old.all j less p)
      (λ last. let is : j ≡ n = omega (arith, low, last) in absurd (not_here (subst P is p)))
      (cases_lt j n);
}

pub picked_if : (P : ℕ → Type 0) (n : ℕ) (xs xs' : List ℕ) (wanted : Bool) → ArePicked P n xs → (wanted ≡ true → P n) → (wanted ≡ false → P n → ⊥) → PushesIf wanted n xs xs' → ArePicked P (n + 1) xs'
picked_if P n xs xs' wanted old on off put = ⊎_elim
    (λ t. subst (λ (v : List ℕ). ArePicked P (n + 1) v) (sym (MatchBool-at_true _ _ t put)) (picked_push P n xs old (on t)))
    (λ f. subst (λ (v : List ℕ). ArePicked P (n + 1) v) (sym (MatchBool-at_false _ _ f put)) (picked_same P n xs old (off f)))
    (cases_Bool wanted)

pub lists_none : (P : ℕ → ℕ → Type 0) (count : ℕ) (lists : List (List ℕ)) → (let none : List ℕ = [] in lists ≡ replicate count none) → ArePickedFor P count 0 lists
lists_none P count lists is = record {
  long = ap length is ∙ length-replicate count [];
  each = λ i low. subst (λ (xs : List ℕ). ArePicked (P i) 0 xs) (sym (ap (λ v. get_or v i []) is ∙ get_or-replicate count i [] [] low)) (picked_none (P i));
}

-- number n comes to a list where it belongs there, and nowhere else
abbrev pub TakesIn : (ℕ → ℕ → Type 0) → ℕ → ℕ → List ℕ → List ℕ → Type 0
TakesIn P i n xs xs' = (P i n × (xs' ≡ xs ++ n ∷ [])) ⊎ ((P i n → ⊥) × (xs' ≡ xs))

pub lists_more : (P : ℕ → ℕ → Type 0) (count n : ℕ) (lists lists' : List (List ℕ)) → ArePickedFor P count n lists → length lists' ≡ length lists
    → ((i : ℕ) → i < count → TakesIn P i n (get_or lists i []) (get_or lists' i [])) → ArePickedFor P count (n + 1) lists'
lists_more P count n lists lists' old long each = record {
  long = long ∙ old.long;
  each = λ i low. ⊎_elim
      (λ here. subst (λ (xs : List ℕ). ArePicked (P i) (n + 1) xs) (sym here.1) (picked_push (P i) n (get_or lists i []) (old.each i low) here.0))
      (λ apart. subst (λ (xs : List ℕ). ArePicked (P i) (n + 1) xs) (sym apart.1) (picked_same (P i) n (get_or lists i []) (old.each i low) apart.0))
      (each i low);
}

-- a list after a number came to it, and every other list
pub pushed_at : (lists lists' : List (List ℕ)) (at n : ℕ) → at < length lists → lists' ≡ set lists at (get_or lists at [] ++ n ∷ [])
    → (i : ℕ) → ((i ≡ at) × (get_or lists' i [] ≡ get_or lists i [] ++ n ∷ [])) ⊎ ((i ≢ at) × (get_or lists' i [] ≡ get_or lists i []))
pushed_at lists lists' at n inside is i = ⊎_elim
    (λ same. inl (
      same,
      ap (λ v. get_or v i []) is
          ∙ ap (λ v. get_or (set lists at (get_or lists at [] ++ n ∷ [])) v []) same
          ∙ get_or-set_same lists at (get_or lists at [] ++ n ∷ []) [] inside
          ∙ ap (λ v. get_or lists v [] ++ n ∷ []) (sym same),
    ))
    (λ other. inr (other, ap (λ v. get_or v i []) is ∙ get_or-set_other lists at i (get_or lists at [] ++ n ∷ []) [] other))
    (cases_eq i at)

pub long_pushed : (lists lists' : List (List ℕ)) (at n : ℕ) → lists' ≡ set lists at (get_or lists at [] ++ n ∷ []) → length lists' ≡ length lists
long_pushed lists lists' at n is = ap length is ∙ length-set lists at (get_or lists at [] ++ n ∷ [])

pub children_more : (parent : List ℕ) (count n : ℕ) (lists lists' : List (List ℕ)) → ArePickedFor (IsChildOf parent) count n lists → get_or parent n 0 < count
    → PutsIn (get_or parent n 0) n lists lists' → ArePickedFor (IsChildOf parent) count (n + 1) lists'
children_more parent count n lists lists' old low (inl (same, is)) =
    lists_more (IsChildOf parent) count n lists lists' old (ap length is) (λ i within. inr (λ child. child.1 (sym child.0 ∙ same), ap (λ v. get_or v i []) is))
children_more parent count n lists lists' old low (inr (other, is)) =
    lists_more (IsChildOf parent) count n lists lists' old (long_pushed lists lists' (get_or parent n 0) n is) (λ i within. ⊎_elim
    (λ here. inl ((sym here.0, λ bad. other (sym here.0 ∙ bad)), here.1))
    (λ apart. inr (λ child. apart.0 (sym child.0), apart.1))
    (pushed_at lists lists' (get_or parent n 0) n (omega (arith, low, old.long)) is i))
