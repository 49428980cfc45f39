-- Two entries more behind a list, by their places.
use Rattle.std.proofs.Common.{◌≡◌, ◌⊎◌, ℕ, ◌+◌, ◌<◌, List, [], ◌∷◌, ◌++◌, length, sym, ◌∙◌, inl, inr, ⊎_elim, arith}
use Rattle.std.specs.Prelude.{slice_index_or}
use Rattle.std.proofs.lemmas.Bool.{cases_lt, cases_eq}
use Rattle.std.proofs.lemmas.List.{length_push, get_or_append_left, get_or_push}

pub old_at : {A : Type 0} (xs : List A) (y z d : A) (k : ℕ) → k < length xs → slice_index_or ((xs ++ y ∷ []) ++ z ∷ []) k d ≡ slice_index_or xs k d
old_at xs y z d k within =
    get_or_append_left (xs ++ y ∷ []) (z ∷ []) d k (omega (arith, within, length_push xs y)) ∙ get_or_append_left xs (y ∷ []) d k within

pub left_at : {A : Type 0} (xs : List A) (y z d : A) (k : ℕ) → length xs ≡ k → slice_index_or ((xs ++ y ∷ []) ++ z ∷ []) k d ≡ y
left_at xs y z d k at =
    get_or_append_left (xs ++ y ∷ []) (z ∷ []) d k (omega (arith, at, length_push xs y)) ∙ get_or_push xs y d k at

pub right_at : {A : Type 0} (xs : List A) (y z d : A) (k : ℕ) → length xs + 1 ≡ k → slice_index_or ((xs ++ y ∷ []) ++ z ∷ []) k d ≡ z
right_at xs y z d k at = get_or_push (xs ++ y ∷ []) z d k (omega (arith, at, length_push xs y))

pub long_two : {A : Type 0} (xs : List A) (y z : A) → length ((xs ++ y ∷ []) ++ z ∷ []) ≡ length xs + 2
long_two xs y z = omega (arith, length_push xs y, length_push (xs ++ y ∷ []) z)

-- which of the old entries, or of the two more
pub where_at : (long k : ℕ) → k < long + 2 → (k < long) ⊎ ((long ≡ k) ⊎ (long + 1 ≡ k))
where_at long k within = ⊎_elim (λ low. inl low)
    (λ high. ⊎_elim (λ is. inr (inl (sym is))) (λ other. inr (inr (omega (arith, high, other, within)))) (cases_eq k long))
    (cases_lt k long)
