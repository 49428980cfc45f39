-- The first of several answers, and sums over numbers.
use Rattle.std.proofs.Common.{◌≡◌, ◌⊎◌, ℕ, zero, suc, ◌+◌, ◌-◌, ◌<◌, ◌≤◌, Option, Some, None, List, [], ◌∷◌, refl, arith, inl, inr, add-one, zero-add, suc-add, ◌∙◌}
use Rattle.std.proofs.lemmas.Bool.{cases_lt}
use Rattle.service_model.specs.Search.{or_else, first_of, first_below, sum_below}

-- where neither answers, neither did
pub or_else_first : {A : Type 0} (a b : Option A) → or_else a b ≡ None → a ≡ None
or_else_first None b none = refl
or_else_first (Some x) b none = cc

pub or_else_second : {A : Type 0} (a b : Option A) → or_else a b ≡ None → b ≡ None
or_else_second None b none = none
or_else_second (Some x) b none = cc

-- an answer is the first's, or the second's where the first has none
pub or_else_cases : {A : Type 0} (a b : Option A) (x : A) → or_else a b ≡ Some x → (a ≡ Some x) ⊎ ((a ≡ None) × (b ≡ Some x))
or_else_cases None b x found = inr (refl, found)
or_else_cases (Some y) b x found = inl found

-- each answer of a list is none
abbrev pub AllNone : {A : Type 0} → List (Option A) → Type 0
AllNone [] = Unit {0}
AllNone (x ∷ xs) = (x ≡ None) × AllNone xs

pub first_of_none : {A : Type 0} (xs : List (Option A)) → first_of xs ≡ None → AllNone xs
first_of_none [] none = tt
first_of_none (None ∷ xs) none = (refl, first_of_none xs none)
first_of_none (Some x ∷ xs) none = cc

-- no answer below n is no answer at each number below n, and the other way round
pub none_below : {A : Type 0} (f : ℕ → Option A) (n : ℕ) → first_below f n ≡ None → (k : ℕ) → k < n → f k ≡ None
none_below f zero none k within = absurd (omega arith)
none_below f (suc n) none k within =
    let last : f n ≡ None = or_else_second (first_below f n) (f n) none in
    let before : first_below f n ≡ None = or_else_first (first_below f n) (f n) none in
    elim (cases_lt k n) [ inl less ↦ none_below f n before k less | inr more ↦ (let same : k ≡ n = omega arith in rw same last) ]

pub below_none : {A : Type 0} (f : ℕ → Option A) (n : ℕ) → ((k : ℕ) → k < n → f k ≡ None) → first_below f n ≡ None
below_none f zero each = refl
below_none f (suc n) each = rw (below_none f n (λ k l. each k (omega arith)), each n (omega arith)) refl

pub first_below_step : {A : Type 0} (f : ℕ → Option A) (n : ℕ) → first_below f n ≡ None → first_below f (n + 1) ≡ f n
first_below_step f n before = rw add-one (rw before refl)

-- an answer stays the first, however far the search goes on
pub first_below_stays : {A : Type 0} (f : ℕ → Option A) (more n : ℕ) (x : A) → first_below f n ≡ Some x → first_below f (more + n) ≡ Some x
first_below_stays f zero n x found = rw (zero-add n) found
first_below_stays f (suc more) n x found = rw (suc-add more n) (rw (first_below_stays f more n x found) refl)

-- where there is no answer below k, that of k is the first
pub first_below_found : {A : Type 0} (f : ℕ → Option A) (n k : ℕ) (x : A) → first_below f k ≡ None → k < n → f k ≡ Some x → first_below f n ≡ Some x
first_below_found f n k x before within here =
    let found : first_below f (k + 1) ≡ Some x = first_below_step f k before ∙ here in
    let far : n ≡ (n - (k + 1)) + (k + 1) = omega arith in
    rw far (first_below_stays f (n - (k + 1)) (k + 1) x found)

-- where the first answer comes from
pub first_below_at : {A : Type 0} (f : ℕ → Option A) (n : ℕ) (x : A) → first_below f n ≡ Some x → (k : ℕ) × (k < n) × (f k ≡ Some x) × (first_below f k ≡ None)
first_below_at f zero x found = cc
first_below_at f (suc n) x found =
    elim (or_else_cases (first_below f n) (f n) x found) [
      | inl before ↦ (let rest = first_below_at f n x before in (rest.0, omega (arith, rest.1), rest.2, rest.3))
      | inr here ↦ (n, omega arith, here.1, here.0)
    ]

pub sum_below_more : (f : ℕ → ℕ) (n : ℕ) → sum_below f (n + 1) ≡ f n + sum_below f n
sum_below_more f n = rw add-one refl

-- a sum is as great as its terms
pub sum_below_le : (f g : ℕ → ℕ) (n : ℕ) → ((k : ℕ) → k < n → f k ≤ g k) → sum_below f n ≤ sum_below g n
sum_below_le f g zero each = omega arith
sum_below_le f g (suc n) each =
    let before : sum_below f n ≤ sum_below g n = sum_below_le f g n (λ k l. each k (omega arith)) in
    omega (arith, before, each n (omega arith))

-- a sum grows with the number of its terms
pub sum_below_grows : (f : ℕ → ℕ) (m n : ℕ) → m ≤ n → sum_below f m ≤ sum_below f n
sum_below_grows f m zero few = (let same : m ≡ zero = omega arith in rw same (omega arith))
sum_below_grows f m (suc n) few =
    elim (cases_lt n m) [
      | inl more ↦ (let same : m ≡ suc n = omega arith in rw same (omega arith))
      | inr less ↦ (let before : sum_below f m ≤ sum_below f n = sum_below_grows f m n less in omega (arith, before))
    ]

-- one term is at most the sum
pub term_below_sum : (f : ℕ → ℕ) (n k : ℕ) → k < n → f k ≤ sum_below f n
term_below_sum f n k within =
    let step : sum_below f (k + 1) ≡ f k + sum_below f k = sum_below_more f k in
    let grown : sum_below f (k + 1) ≤ sum_below f n = sum_below_grows f (k + 1) n (omega arith) in
    omega arith
