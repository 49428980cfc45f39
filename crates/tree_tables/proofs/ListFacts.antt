-- The least of a part of a list, one value more or fewer.
use Rattle.std.proofs.Common.{ℕ, zero, suc, ◌≡◌, ◌+◌, ◌-◌, ◌<◌, ◌≤◌, min, List, [], ◌∷◌, ◌++◌, length, get_or, take, drop, refl, subst, sym, ap, ◌∙◌, ⊎_elim, add-one, arith}
use Rattle.std.proofs.lemmas.Bool.{cases_eq}
use Rattle.std.proofs.lemmas.List.{get_or_push, get_or_append_left}
use Rattle.std.proofs.lemmas.List.{take_all, drop_all}
use Rattle.service_model.specs.declared.limits.TheConstants.{INF}
use Rattle.service_model.specs.LocalSums.{least_of}

pub least_of_top : (xs : List ℕ) → least_of xs ≤ INF
least_of_top [] = omega arith
least_of_top (x ∷ xs) = let rest = least_of_top xs in omega (arith, rest)

least_suc : (xs : List ℕ) (k : ℕ) → k < length xs → least_of (take (suc k) xs) ≡ min (least_of (take k xs)) (get_or xs k 0)
least_suc [] k within = absurd (omega arith)
least_suc (x ∷ xs) zero within = omega (arith, least_of_top xs)
least_suc (x ∷ xs) (suc k) within = let rest = least_suc xs k (omega arith) in omega (arith, rest)

-- one more value
pub least_more : (xs : List ℕ) (k : ℕ) → k < length xs → least_of (take (k + 1) xs) ≡ min (least_of (take k xs)) (get_or xs k 0)
least_more xs k within = rw add-one (least_suc xs k within)

pub least_early : (xs : List ℕ) (i shift : ℕ) → i < shift → least_of (take (i + 1 - shift) xs) ≡ least_of (take (i - shift) xs)
least_early xs i shift early = let same : i + 1 - shift ≡ i - shift = omega arith in ap (λ k. least_of (take k xs)) same

pub least_late : (xs : List ℕ) (i shift : ℕ) → shift ≤ i → length xs ≤ i - shift → least_of (take (i + 1 - shift) xs) ≡ least_of (take (i - shift) xs)
least_late xs i shift after late = ap least_of (take_all (i + 1 - shift) xs (omega arith) ∙ sym (take_all (i - shift) xs late))

pub least_next : (xs : List ℕ) (i shift : ℕ) → shift ≤ i → i - shift < length xs
    → least_of (take (i + 1 - shift) xs) ≡ min (least_of (take (i - shift) xs)) (get_or xs (i - shift) 0)
least_next xs i shift after within =
    let same : i + 1 - shift ≡ i - shift + 1 = omega arith in
    ap (λ k. least_of (take k xs)) same ∙ least_more xs (i - shift) within

-- one value fewer before the part
least_drop_suc : (xs : List ℕ) (k : ℕ) → k < length xs → least_of (drop k xs) ≡ min (get_or xs k 0) (least_of (drop (suc k) xs))
least_drop_suc [] k within = absurd (omega arith)
least_drop_suc (x ∷ xs) zero within = refl
least_drop_suc (x ∷ xs) (suc k) within = least_drop_suc xs k (omega arith)

pub least_low : (xs : List ℕ) (o shift floor : ℕ) → o + shift < floor → least_of (drop (o + shift - floor) xs) ≡ least_of (drop (o + 1 + shift - floor) xs)
least_low xs o shift floor low = let same : o + shift - floor ≡ o + 1 + shift - floor = omega arith in ap (λ k. least_of (drop k xs)) same

pub least_far : (xs : List ℕ) (o shift floor : ℕ) → floor ≤ o + shift → length xs ≤ o + shift - floor
    → least_of (drop (o + shift - floor) xs) ≡ least_of (drop (o + 1 + shift - floor) xs)
least_far xs o shift floor after far = ap least_of (drop_all (o + shift - floor) xs far ∙ sym (drop_all (o + 1 + shift - floor) xs (omega arith)))

pub least_before : (xs : List ℕ) (o shift floor : ℕ) → floor ≤ o + shift → o + shift - floor < length xs
    → least_of (drop (o + shift - floor) xs) ≡ min (least_of (drop (o + 1 + shift - floor) xs)) (get_or xs (o + shift - floor) 0)
least_before xs o shift floor after within =
    let same : suc (o + shift - floor) ≡ o + 1 + shift - floor = omega arith in
    let one = least_drop_suc xs (o + shift - floor) within in
    let two : least_of (drop (suc (o + shift - floor)) xs) ≡ least_of (drop (o + 1 + shift - floor) xs) = ap (λ k. least_of (drop k xs)) same in
    omega (arith, one, two)

-- one value more at the end
pub pushed : (P : ℕ → ℕ → Type 0) (low i v : ℕ) (xs ys : List ℕ) → ys ≡ xs ++ v ∷ [] → low ≤ i → length xs ≡ i - low
    → ((o : ℕ) → low ≤ o → o < i → P o (get_or xs (o - low) 0)) → P i v
    → (o : ℕ) → low ≤ o → o < i + 1 → P o (get_or ys (o - low) 0)
pushed P low i v xs ys is from long each here o above below = ⊎_elim
    (λ same.
    let at : get_or (xs ++ v ∷ []) (o - low) 0 ≡ v = get_or_push xs v 0 (o - low) (omega (arith, long, same)) in
    let value : v ≡ get_or ys (o - low) 0 = sym (ap (λ zs. get_or zs (o - low) 0) is ∙ at) in
    subst (λ k. P k (get_or ys (o - low) 0)) (sym same) (subst (P i) value here))
    (λ other.
    let old : get_or (xs ++ v ∷ []) (o - low) 0 ≡ get_or xs (o - low) 0 = get_or_append_left xs (v ∷ []) 0 (o - low) (omega (arith, long)) in
    let value : get_or xs (o - low) 0 ≡ get_or ys (o - low) 0 = sym (ap (λ zs. get_or zs (o - low) 0) is ∙ old) in
    subst (P o) value (each o above (omega arith)))
    (cases_eq o i)
