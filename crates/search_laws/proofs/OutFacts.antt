-- A number taken out of a list, and sums over what is left.
use Rattle.std.proofs.Common.{◌≡◌, ◌≢◌, ℕ, ◌+◌, ◌<◌, ◌≤◌, List, [], ◌∷◌, length, refl, sym, ap, ◌∙◌, inl, inr, ⊎_elim, arith}
use Rattle.std.specs.Prelude.{sum_by, ◌⊎◌}
use Rattle.std.specs.List.{AllByRecursion}
use Rattle.std.proofs.lemmas.List.Sums.{sum_by-cons}

-- the number stands in the list
abbrev pub Has : List ℕ → ℕ → Type 0
Has [] k = ⊥
Has (x ∷ xs) k = (x ≡ k) ⊎ Has xs k

-- the list without a number that it has; all its numbers are below another
pub record IsWithout (g : ℕ → ℕ) (high : ℕ) (xs : List ℕ) (x : ℕ) : Type 0 where
  pub rest : List ℕ
  pub long : length xs ≡ length rest + 1
  pub sum : sum_by g xs ≡ g x + sum_by g rest
  pub others : (k : ℕ) → Has xs k → k ≢ x → Has rest k
  pub low : AllByRecursion (λ k. k < high) rest

pub take_out : (g : ℕ → ℕ) (high : ℕ) (xs : List ℕ) (x : ℕ) → AllByRecursion (λ k. k < high) xs → Has xs x → IsWithout g high xs x
take_out g high [] x low has = absurd has
take_out g high (y ∷ xs) x low (inl is) = record {
  rest = xs;
  long = omega arith;
  sum = sum_by-cons g y xs ∙ ap (λ k. g k + sum_by g xs) is;
  others = λ k has other. ⊎_elim (λ at. absurd (other (sym at ∙ is))) (λ later. later) has;
  low = low.1;
}
take_out g high (y ∷ xs) x low (inr later) =
    let out = take_out g high xs x low.1 later in
    record {
      rest = y ∷ out.rest;
      long = let long = out.long in omega (arith, long);
      sum = let sum = out.sum in omega (arith, sum_by-cons g y xs, sum_by-cons g y out.rest, sum);
      others = λ k has other. ⊎_elim (λ at. inl at) (λ there. inr (out.others k there other)) has;
      low = (low.0, out.low);
    }

pub same_sum : (g h : ℕ → ℕ) (high : ℕ) (xs : List ℕ) → ((k : ℕ) → k < high → g k ≡ h k) → AllByRecursion (λ k. k < high) xs → sum_by g xs ≡ sum_by h xs
same_sum g h high [] same low = refl
same_sum g h high (x ∷ xs) same low = omega (arith, sum_by-cons g x xs, sum_by-cons h x xs, same x low.0, same_sum g h high xs same low.1)

-- a list of numbers that each count for one at least is no longer than their sum
pub long_sum : (g : ℕ → ℕ) (xs : List ℕ) → AllByRecursion (λ k. 1 ≤ g k) xs → length xs ≤ sum_by g xs
long_sum g [] some = omega arith
long_sum g (x ∷ xs) some = let rest = long_sum g xs some.1 in let first = some.0 in omega (arith, sum_by-cons g x xs, rest, first)

-- and where it is as long, each counts for one
pub one_each : (g : ℕ → ℕ) (xs : List ℕ) → AllByRecursion (λ k. 1 ≤ g k) xs → sum_by g xs ≤ length xs → (k : ℕ) → Has xs k → g k ≡ 1
one_each g [] some few k has = absurd has
one_each g (x ∷ xs) some few k (inl is) =
    let rest = long_sum g xs some.1 in let first = some.0 in omega (arith, sum_by-cons g x xs, rest, first, few, ap g is)
one_each g (x ∷ xs) some few k (inr later) = one_each g xs some.1 (let first = some.0 in omega (arith, sum_by-cons g x xs, first, few)) k later
