-- Sums over the numbers of a list beside sums over all numbers below another.
use Rattle.std.proofs.Common.{◌≡◌, ◌≢◌, ℕ, zero, suc, ◌+◌, ◌<◌, ◌≤◌, Bool, true, false, cond, List, [], ◌∷◌, map, refl, sym, ap, ⊎_elim, arith}
use Rattle.std.specs.Prelude.{AllPairs, Contains, sum_by, ◌==◌}
use Rattle.std.specs.List.{AllByRecursion}
use Rattle.std.proofs.lemmas.Bool.{eq-eqb, ne_eqb, cases_eq}
use Rattle.std.proofs.lemmas.List.Sums.{sum_by-cons, sum_by-le-sum_by}
use Rattle.std.proofs.lemmas.List.Elements.{recursion_from_All}
use Rattle.service_model.specs.Search.{sum_below}

pub sum_by-map : {X : Type 0} (f : ℕ → ℕ) (g : X → ℕ) (xs : List X) → sum_by f (map g xs) ≡ sum_by (λ x. f (g x)) xs
sum_by-map f g [] = refl
sum_by-map f g (x ∷ xs) =
    let rest = sum_by-map f g xs in
    rw (sum_by-cons f (g x) (map g xs), sum_by-cons (λ y. f (g y)) x xs) (omega (arith, rest))

-- f, but 0 at j
abbrev without : (ℕ → ℕ) → ℕ → ℕ → ℕ
without f j k = cond (k == j) 0 (f k)

without_same : (f : ℕ → ℕ) (j k : ℕ) → k ≢ j → without f j k ≡ f k
without_same f j k other = rw (ne_eqb k j other) refl

without_below : (f : ℕ → ℕ) (j n : ℕ) → n ≤ j → sum_below (without f j) n ≡ sum_below f n
without_below f j zero low = refl
without_below f j (suc n) low =
    let rest = without_below f j n (omega arith) in
    let here = without_same f j n (omega arith) in
    omega (arith, rest, here)

without_one : (f : ℕ → ℕ) (j n : ℕ) → j < n → sum_below (without f j) n + f j ≡ sum_below f n
without_one f j zero low = absurd (omega arith)
without_one f j (suc n) low = ⊎_elim
    (λ is.
    let rest = without_below f j n (omega arith) in
    let here : without f j n ≡ 0 = rw (eq-eqb n j is) refl in
    let same : f j ≡ f n = ap f (sym is) in
    omega (arith, rest, here, same))
    (λ other.
    let rest = without_one f j n (omega arith) in
    let here = without_same f j n other in
    omega (arith, rest, here))
    (cases_eq n j)

without_list : (f : ℕ → ℕ) (j : ℕ) (js : List ℕ) → AllByRecursion (λ k. k ≢ j) js → sum_by (without f j) js ≡ sum_by f js
without_list f j [] others = refl
without_list f j (k ∷ js) others =
    let rest = without_list f j js others.1 in
    let here = without_same f j k others.0 in
    rw (sum_by-cons (without f j) k js, sum_by-cons f k js) (omega (arith, rest, here))

-- no number stands twice
abbrev pub Different : List ℕ → Type 0
Different [] = Unit {0}
Different (j ∷ js) = AllByRecursion (λ k. k ≢ j) js × Different js

pub different_from_pairs : (js : List ℕ) → AllPairs (λ i j. i ≢ j) js → Different js
different_from_pairs [] pairs = tt
different_from_pairs (j ∷ js) pairs = (
  recursion_from_All _ _ (λ k d within same. pairs 0 (suc k) d (omega arith) (omega arith) (sym same)),
  different_from_pairs js (λ a b d less within. pairs (suc a) (suc b) d (omega arith) (omega arith)),
)

-- different numbers below n sum up to at most all below n
pub different_sum : (f : ℕ → ℕ) (n : ℕ) (js : List ℕ) → AllByRecursion (λ j. j < n) js → Different js → sum_by f js ≤ sum_below f n
different_sum f n [] low apart = omega arith
different_sum f n (j ∷ js) low apart =
    let rest = different_sum (without f j) n js low.1 apart.1 in
    let same = without_list f j js apart.0 in
    let one = without_one f j n low.0 in
    rw sum_by-cons (omega (arith, rest, same, one))

without_le : (f : ℕ → ℕ) (j k : ℕ) → without f j k ≤ f k
without_le f j k = go (k == j)
  where
    go : (b : Bool) → cond b 0 (f k) ≤ f k
    go true = omega arith
    go false = omega arith

without_ge : (f : ℕ → ℕ) (j : ℕ) (js : List ℕ) → Contains js j → f j + sum_by (without f j) js ≤ sum_by f js
without_ge f j [] (k, within, is) = absurd (omega arith)
without_ge f j (x ∷ js) (zero, within, is) =
    let none : without f j x ≡ 0 = rw (eq-eqb x j is) refl in
    let same : f x ≡ f j = ap f is in
    let rest = sum_by-le-sum_by (without f j) f js (λ k. without_le f j k) in
    omega (arith, sum_by-cons (without f j) x js, sum_by-cons f x js, none, same, rest)
without_ge f j (x ∷ js) (suc k, within, is) =
    let rest = without_ge f j js (k, omega arith, is) in
    omega (arith, sum_by-cons (without f j) x js, sum_by-cons f x js, rest, without_le f j x)

-- numbers among which is each below n sum up to at least all below n
pub covering_sum : (f : ℕ → ℕ) (n : ℕ) (js : List ℕ) → ((j : ℕ) → j < n → Contains js j) → sum_below f n ≤ sum_by f js
covering_sum f zero js every = omega arith
covering_sum f (suc n) js every =
    let rest = covering_sum (without f n) n js (λ j low. every j (omega arith)) in
    let same = without_below f n n (omega arith) in
    omega (arith, rest, same, without_ge f n js (every n (omega arith)))
