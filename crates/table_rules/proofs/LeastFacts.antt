-- The least of a part of a list, one entry more.
use Rattle.std.proofs.Common.{ℕ, zero, suc, ◌≡◌, ◌+◌, ◌-◌, ◌<◌, ◌≤◌, min, List, [], ◌∷◌, length, take, drop, ap, ⊎_elim, arith}
use Rattle.std.proofs.lemmas.Bool.{cases_lt}
use Rattle.std.proofs.lemmas.Bool.Decides.{nat_tests}
use Rattle.std.proofs.lemmas.List.{drop_all}
use Rattle.service_model.specs.declared.limits.TheConstants.{INF}
use Rattle.service_model.specs.Plans.{entry_of}
use Rattle.service_model.specs.LocalSums.{least_of}
use Rattle.table_rules.specs.Sums.{entry_from}

pub least_of_top : (xs : List ℕ) → least_of xs ≤ INF
least_of_top [] = omega arith
least_of_top (x ∷ xs) = let rest = least_of_top xs in omega (arith, rest)

-- one entry more at the end of the part; an entry past the end is INF
more_taken : (xs : List ℕ) (k : ℕ) → least_of (take (suc k) xs) ≡ min (least_of (take k xs)) (entry_of xs k)
more_taken [] zero = omega arith
more_taken [] (suc k) = omega arith
more_taken (x ∷ xs) zero = omega (arith, least_of_top xs)
more_taken (x ∷ xs) (suc k) = let rest = more_taken xs k in omega (arith, rest)

-- one entry more before the part
more_dropped : (xs : List ℕ) (k : ℕ) → least_of (drop k xs) ≡ min (least_of (drop (suc k) xs)) (entry_of xs k)
more_dropped [] zero = omega arith
more_dropped [] (suc k) = omega arith
more_dropped (x ∷ xs) zero = omega arith
more_dropped (x ∷ xs) (suc k) = more_dropped xs k

-- at and behind the start there is an entry, or the end of the list
entry_late : (xs : List ℕ) (start time : ℕ) → start ≤ time → entry_from xs start time ≡ entry_of xs (time - start)
entry_late xs start time late = grind (arith, nat_tests)

-- before the start there is none
entry_early : (xs : List ℕ) (start time : ℕ) → time < start → entry_from xs start time ≡ INF
entry_early xs start time early = grind (arith, nat_tests)

pub least_taken : (xs : List ℕ) (start time : ℕ)
    → least_of (take (time + 1 - start) xs) ≡ min (least_of (take (time - start) xs)) (entry_from xs start time)
least_taken xs start time = ⊎_elim
    (λ early.
    let same : time + 1 - start ≡ time - start = omega arith in
    let least = ap (λ k. least_of (take k xs)) same in
    omega (arith, least, least_of_top (take (time - start) xs), entry_early xs start time early))
    (λ late.
    let same : time + 1 - start ≡ suc (time - start) = omega arith in
    let least = ap (λ k. least_of (take k xs)) same in
    omega (arith, least, more_taken xs (time - start), entry_late xs start time late))
    (cases_lt time start)

pub least_dropped : (xs : List ℕ) (start shift time next : ℕ) → next ≡ time + 1
    → least_of (drop (time + shift - start) xs) ≡ min (least_of (drop (next + shift - start) xs)) (entry_from xs start (time + shift))
least_dropped xs start shift time next follows = ⊎_elim
    (λ early.
    let same : time + shift - start ≡ next + shift - start = omega arith in
    let least = ap (λ k. least_of (drop k xs)) same in
    omega (arith, least, least_of_top (drop (next + shift - start) xs), entry_early xs start (time + shift) early))
    (λ late.
    let same : suc (time + shift - start) ≡ next + shift - start = omega arith in
    let least = ap (λ k. least_of (drop k xs)) same in
    omega (arith, least, more_dropped xs (time + shift - start), entry_late xs start (time + shift) late))
    (cases_lt (time + shift) start)

-- past the end there is nothing
pub least_past : (xs : List ℕ) (k : ℕ) → length xs ≤ k → least_of (drop k xs) ≡ INF
least_past xs k past = ap least_of (drop_all k xs past)
