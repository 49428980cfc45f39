-- Lists that grow by one item, and the places of stages.
use Rattle.std.proofs.Common.{ℕ, ◌≡◌, ◌+◌, ◌<◌, List, [], ◌∷◌, ◌++◌, length, get_or, set, sym, ap, ◌∙◌, subst, ⊎_elim, arith}
use Rattle.std.proofs.lemmas.Bool.{cases_lt}
use Rattle.std.proofs.lemmas.List.{get_or-set_same, get_or-set_other, get_or_append_left, get_or_push, length_push}
use Rattle.service_model.specs.Forests.{HasEachOnce}

-- a fact of each place and its item, with one item more
pub each_push : (P : ℕ → ℕ → Type 0) (xs : List ℕ) (y : ℕ) → ((k : ℕ) → k < length xs → P k (get_or xs k 0)) → P (length xs) y
    → (k : ℕ) → k < length (xs ++ y ∷ []) → P k (get_or (xs ++ y ∷ []) k 0)
each_push P xs y each here k inside = ⊎_elim
    (λ low. subst (λ v. P k v) (sym (get_or_append_left xs (y ∷ []) 0 k low)) (each k low))
    (λ high.
    let at : k ≡ length xs = omega (arith, length_push xs y) in
    subst (λ v. P k v) (sym (get_or_push xs y 0 k (sym at))) (subst (λ v. P v y) (sym at) here))
    (cases_lt k (length xs))

-- the next stage has its place
pub place_more : (seen place : List ℕ) (k : ℕ) → HasEachOnce (length seen) seen → k < length seen → length place ≡ length seen → ((j : ℕ) → j < k → get_or place (get_or seen j 0) 0 ≡ j)
    → (j : ℕ) → j < k + 1 → get_or (set place (get_or seen k 0) k) (get_or seen j 0) 0 ≡ j
place_more seen place k each inside long old j low = ⊎_elim
    (λ less. get_or-set_other place (get_or seen k 0) (get_or seen j 0) k 0 (λ same. each.once j k 0 less inside same) ∙ old j less)
    (λ last.
    let is : j ≡ k = omega (arith, low, last) in
    let at : get_or seen k 0 < length place = omega (arith, each.low k 0 inside, long) in
    ap (λ v. get_or (set place (get_or seen k 0) k) (get_or seen v 0) 0) is ∙ get_or-set_same place (get_or seen k 0) k 0 at ∙ sym is)
    (cases_lt j k)
