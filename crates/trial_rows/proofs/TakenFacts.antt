-- Lists of stages, each once.
use Rattle.std.proofs.Common.{ℕ, suc, ◌≡◌, ◌≢◌, ◌<◌, ◌≤◌, true, eqb, List, [], ◌∷◌, ◌++◌, length, get_or, take, sym, ◌∙◌, subst, inl, inr, ⊎_elim, arith}
use Rattle.std.specs.Prelude.{Contains, ◌⊎◌}
use Rattle.std.specs.List.{IsDistinct}
use Rattle.std.proofs.lemmas.Bool.{cases_lt, cases_Bool, both_ways, eqb-true, ne_eqb}
use Rattle.std.proofs.lemmas.List.{length_push, get_or_push, get_or_append_left, get_or_default, take_at, take-append-le, get_or-take, length-take}
use Rattle.std.proofs.lemmas.List.Elements.{recursion_from_All}
use Rattle.std.proofs.lemmas.Map.Steps.{length-le_from_distinct_below}
use Rattle.std.proofs.lemmas.Map.Views.{Contains-from_any, list_any-from_Contains}
use Rattle.std.proofs.lemmas.Cmp.{nat_eq_equiv}
use Rattle.service_model.specs.Waits.{is_taken}

exact : (x y : ℕ) → eqb x y ≡ true → x ≡ y
exact x y h = eqb-true x y h

-- a stage is among those taken, or not
pub cases_taken : (xs : List ℕ) (i : ℕ) → Contains xs i ⊎ (Contains xs i → ⊥)
cases_taken xs i = elim (cases_Bool (is_taken xs i)) [
  | inl is ↦ inl (Contains-from_any exact i xs is)
  | inr off ↦ inr (λ inside. both_ways _ off (list_any-from_Contains nat_eq_equiv i xs inside))
]

distinct_from : (xs : List ℕ) → ((i j : ℕ) → i < j → j < length xs → get_or xs i 0 ≢ get_or xs j 0) → IsDistinct eqb xs
unfolding IsDistinct
distinct_from [] apart = tt
distinct_from (x ∷ xs) apart = (
  recursion_from_All _ xs (λ k d inside. ne_eqb _ _ (λ same. apart 0 (suc k) (omega arith) (omega (arith, inside)) (same ∙ get_or_default xs k d 0 inside))),
  distinct_from xs (λ i j less inside. apart (suc i) (suc j) (omega arith) (omega arith)),
)

-- stages below n, each new to those before it, are at most n
pub few_new : (xs : List ℕ) (n : ℕ) → ((k : ℕ) → k < length xs → get_or xs k 0 < n) → ((k : ℕ) → k < length xs → Contains (take k xs) (get_or xs k 0) → ⊥) → length xs ≤ n
few_new xs n low new =
    length-le_from_distinct_below xs n
    (distinct_from xs (λ i j less inside same.
    new j inside (i, omega (arith, length-take j xs), get_or-take j xs i (get_or xs j 0) less ∙ get_or_default xs i (get_or xs j 0) 0 (omega arith) ∙ same)))
    (λ q is.
    let at = Contains-from_any exact q xs is in
    subst (λ x. x < n) (get_or_default xs at.0 0 q at.1 ∙ at.2) (low at.0 at.1))

-- a fact of each item and those before it, with one item more
pub each_push : (P : List ℕ → ℕ → Type 0) (xs : List ℕ) (y : ℕ) → ((k : ℕ) → k < length xs → P (take k xs) (get_or xs k 0)) → P xs y
    → (k : ℕ) → k < length (xs ++ y ∷ []) → P (take k (xs ++ y ∷ [])) (get_or (xs ++ y ∷ []) k 0)
each_push P xs y each here k inside = ⊎_elim
    (λ low.
    let front : take k (xs ++ y ∷ []) ≡ take k xs = take-append-le k xs (y ∷ []) (omega arith) in
    subst (λ (ys : List ℕ). P ys (get_or (xs ++ y ∷ []) k 0)) (sym front)
    (subst (λ x. P (take k xs) x) (sym (get_or_append_left xs (y ∷ []) 0 k low)) (each k low)))
    (λ high.
    let at : k ≡ length xs = omega (arith, inside, high, length_push xs y) in
    subst (λ (ys : List ℕ). P ys (get_or (xs ++ y ∷ []) k 0)) (sym (take_at xs (y ∷ []) k (sym at)))
    (subst (λ x. P xs x) (sym (get_or_push xs y 0 k (sym at))) here))
    (cases_lt k (length xs))
