-- Products over all numbers below another.
use Rattle.std.proofs.Common.{◌≡◌, ◌≢◌, ℕ, zero, suc, ◌+◌, ◌*◌, ◌^◌, ◌<◌, ◌≤◌, Bool, true, false, cond, refl, sym, ap, ◌∙◌, ⊎_elim, arith}
use Rattle.std.proofs.Math.Nat.{pow-zero, pow-succ'}
use Rattle.std.proofs.lemmas.Bool.{cases_eq}
use Rattle.std.proofs.lemmas.Nat.{mul-le}
use Rattle.service_model.specs.Search.{sum_below}

-- f 0 * f 1 and on to f (n - 1)
abbrev pub product_below : (ℕ → ℕ) → ℕ → ℕ
product_below f zero = 1
product_below f (suc n) = f n * product_below f n

product_same : (f g : ℕ → ℕ) (n : ℕ) → ((j : ℕ) → j < n → f j ≡ g j) → product_below f n ≡ product_below g n
product_same f g zero same = refl
product_same f g (suc n) same =
    let rest = product_same f g n (λ j low. same j (omega arith)) in
    ap (λ x. x * product_below f n) (same n (omega arith)) ∙ ap (λ y. g n * y) rest

pub product_le : (f g : ℕ → ℕ) (n : ℕ) → ((j : ℕ) → j < n → f j ≤ g j) → product_below f n ≤ product_below g n
product_le f g zero low = omega arith
product_le f g (suc n) low =
    mul-le (f n) (product_below f n) (g n) (product_below g n) (low n (omega arith)) (product_le f g n (λ j below. low j (omega arith)))

-- a product of positive numbers is positive
pub product_some : (f : ℕ → ℕ) (n : ℕ) → ((j : ℕ) → j < n → 1 ≤ f j) → 1 ≤ product_below f n
product_some f zero some = omega arith
product_some f (suc n) some =
    let least = mul-le 1 1 (f n) (product_below f n) (some n (omega arith)) (product_some f n (λ j low. some j (omega arith))) in
    omega (arith, least)

-- where one factor is a sum, and the others stay, the product is the sum of two
pub product_parts : (f g h : ℕ → ℕ) (i n : ℕ) → i < n → f i ≡ g i + h i → ((j : ℕ) → j < n → j ≢ i → (f j ≡ g j) × (f j ≡ h j))
    → product_below f n ≡ product_below g n + product_below h n
product_parts f g h i zero within sum others = absurd (omega arith)
product_parts f g h i (suc n) within sum others = ⊎_elim
    (λ is.
    let left = product_same f g n (λ j low. (others j (omega arith) (λ same. omega (arith, same, is))).0) in
    let right = product_same f h n (λ j low. (others j (omega arith) (λ same. omega (arith, same, is))).1) in
    let factor : f n ≡ g n + h n = ap f is ∙ sum ∙ ap (λ k. g k + h k) (sym is) in
    let all = ap (λ x. x * product_below f n) factor in
    omega (arith, all, ap (λ y. g n * y) left, ap (λ y. h n * y) right))
    (λ other.
    let rest = product_parts f g h i n (omega arith) sum (λ j low. others j (omega arith)) in
    let same = others n (omega arith) other in
    omega (arith, ap (λ y. f n * y) rest, ap (λ x. x * product_below g n) same.0, ap (λ x. x * product_below h n) same.1))
    (cases_eq n i)

-- positive numbers whose product is 1 are 1
pub product_one : (f : ℕ → ℕ) (n : ℕ) → ((j : ℕ) → j < n → 1 ≤ f j) → product_below f n ≡ 1 → (j : ℕ) → j < n → f j ≡ 1
product_one f zero some one j low = absurd (omega arith)
product_one f (suc n) some one j low =
    let here = some n (omega arith) in
    let below = product_some f n (λ k less. some k (omega arith)) in
    let first = mul-le (f n) 1 (f n) (product_below f n) (omega arith) below in
    let second = mul-le 1 (product_below f n) (f n) (product_below f n) here (omega arith) in
    ⊎_elim
    (λ is. omega (arith, ap f is, here, first, one))
    (λ other. product_one f n (λ k less. some k (omega arith)) (omega (arith, below, second, one)) j (omega (arith, low, other)))
    (cases_eq j n)

power_step : (b : Bool) (base product count : ℕ) → product ≡ base ^ count → cond b base 1 * product ≡ base ^ (cond b 1 0 + count)
power_step true base product count is =
    let more : 1 + count ≡ suc count = omega arith in
    ap (λ y. base * y) is ∙ sym (ap (λ k. base ^ k) more ∙ pow-succ' base count)
power_step false base product count is =
    let same : 0 + count ≡ count = omega arith in
    let one : 1 * product ≡ product = omega arith in
    one ∙ is ∙ sym (ap (λ k. base ^ k) same)

-- the product of a number, once for each of those told, is its power
pub product_power : (told : ℕ → Bool) (base n : ℕ) → product_below (λ j. cond (told j) base 1) n ≡ base ^ sum_below (λ j. cond (told j) 1 0) n
product_power told base zero = sym (pow-zero base)
product_power told base (suc n) =
    power_step (told n) base (product_below (λ j. cond (told j) base 1) n) (sum_below (λ j. cond (told j) 1 0) n) (product_power told base n)
