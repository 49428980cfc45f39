-- One more row behind rows.
use Rattle.std.proofs.Common.{◌≡◌, ℕ, zero, suc, ◌+◌, Bool, List, [], ◌∷◌, ◌++◌, map, filter, sym, ap, ◌∙◌, arith, add-one, append_assoc}
use Rattle.std.specs.List.{range_with_len}
use Rattle.std.proofs.lemmas.List.{map_push, map-append}
use Rattle.std.proofs.lemmas.List.Elements.{filter-append}

range_more : (a n : ℕ) → range_with_len a (suc n) ≡ range_with_len a n ++ (a + n) ∷ []
range_more a zero = let same : a ≡ a + 0 = omega arith in ap (λ (x : ℕ). x ∷ []) same
range_more a (suc n) =
    let same : (a + 1) + n ≡ a + suc n = omega arith in
    ap (λ (xs : List ℕ). a ∷ xs) (range_more (a + 1) n ∙ ap (λ (x : ℕ). range_with_len (a + 1) n ++ x ∷ []) same)

range_next : (k : ℕ) → range_with_len 0 (k + 1) ≡ range_with_len 0 k ++ k ∷ []
range_next k =
    let last : 0 + k ≡ k = omega arith in
    ap (range_with_len 0) (add-one k) ∙ range_more 0 k ∙ ap (λ (n : ℕ). range_with_len 0 k ++ n ∷ []) last

-- the rows of the first stages, and one more
pub rows_more : (row : ℕ → List (List ℕ)) (before : List (List (List ℕ))) (k : ℕ) → (before ++ map row (range_with_len 0 k)) ++ row k ∷ [] ≡ before ++ map row (range_with_len 0 (k + 1))
rows_more row before k =
    let last : 0 + k ≡ k = omega arith in
    let more : map row (range_with_len 0 (k + 1)) ≡ map row (range_with_len 0 k) ++ row k ∷ [] =
    ap (λ (n : ℕ). map row (range_with_len 0 n)) (add-one k) ∙ ap (map row) (range_more 0 k) ∙ map_push row (range_with_len 0 k) (0 + k) ∙ ap (λ (n : ℕ). map row (range_with_len 0 k) ++ row n ∷ []) last in
    append_assoc before (map row (range_with_len 0 k)) (row k ∷ []) ∙ ap (λ (xs : List (List (List ℕ))). before ++ xs) (sym more)

-- the rows of what passes a test, and that of one more if it passes
filtered_push : {X : Type 0} (row : X → List (List ℕ)) (test : X → Bool) (before : List (List (List ℕ))) (xs : List X) (x : X)
    → (before ++ map row (filter test xs)) ++ map row (filter test (x ∷ [])) ≡ before ++ map row (filter test (xs ++ x ∷ []))
filtered_push row test before xs x =
    append_assoc before (map row (filter test xs)) (map row (filter test (x ∷ [])))
    ∙ ap (λ (rows : List (List (List ℕ))). before ++ rows) (sym (map-append row (filter test xs) (filter test (x ∷ []))) ∙ ap (map row) (sym (filter-append test xs (x ∷ []))))

-- the same of the first numbers
pub filtered_numbers : (row : ℕ → List (List ℕ)) (test : ℕ → Bool) (before : List (List (List ℕ))) (k : ℕ)
    → (before ++ map row (filter test (range_with_len 0 k))) ++ map row (filter test (k ∷ [])) ≡ before ++ map row (filter test (range_with_len 0 (k + 1)))
filtered_numbers row test before k =
    filtered_push row test before (range_with_len 0 k) k ∙ ap (λ (ks : List ℕ). before ++ map row (filter test ks)) (sym (range_next k))
