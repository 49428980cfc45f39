-- How many choices of times some stages have in a range.
use Rattle.std.proofs.Common.{◌≡◌, ℕ, ◌+◌, ◌-◌, ◌^◌, ◌<◌, ◌≤◌, Bool, true, false, cond, length, get_or, sym, ap, ◌∙◌, arith}
use Rattle.std.proofs.lemmas.List.{get_or-set_same, get_or-set_other}
use Rattle.service_model.specs.declared.range.Range.{Range}
use Rattle.service_model.specs.Net.{Net}
use Rattle.service_model.specs.Search.{sum_below}
use Rattle.service_model.specs.Networks.{IsNetwork}
use Rattle.service_model.specs.Ranges.{HasIntervals, HoldsTime, whole_of, ended, started}
use Rattle.search_laws.proofs.ProductFacts.{product_below, product_le, product_some, product_parts, product_one, product_power}
use Rattle.search_laws.proofs.PartFacts.{whole_most}

-- how many times the range's interval of a stage holds
abbrev pub times_of : Range → ℕ → ℕ
times_of r j = get_or r.most j 0 + 1 - get_or r.least j 0

-- how many times the stage may quote, where it is one of those told
abbrev choice : (ℕ → Bool) → Range → ℕ → ℕ
choice told r j = cond (told j) (times_of r j) 1

-- how many choices of times the stages told have
abbrev pub choices : (ℕ → Bool) → Net → Range → ℕ
choices told n r = product_below (choice told r) (length n.stages)

some_choice : (b : Bool) (times : ℕ) → 1 ≤ times → 1 ≤ cond b times 1
some_choice true times some = some
some_choice false times some = omega arith

has_choice : (told : ℕ → Bool) (n : Net) (r : Range) → HasIntervals n r → (j : ℕ) → j < length n.stages → 1 ≤ choice told r j
has_choice told n r intervals j low = some_choice (told j) (times_of r j) (let order = intervals.interval j low in omega (arith, order))

-- a range of intervals leaves a choice
pub choices_some : (told : ℕ → Bool) (n : Net) (r : Range) → HasIntervals n r → 1 ≤ choices told n r
choices_some told n r intervals = product_some (choice told r) (length n.stages) (has_choice told n r intervals)

-- where there is one choice, each stage told has one time
pub choices_one : (told : ℕ → Bool) (n : Net) (r : Range) → HasIntervals n r → choices told n r ≡ 1 → (j : ℕ) → j < length n.stages → told j ≡ true
    → times_of r j ≡ 1
choices_one told n r intervals one j low is =
    ap (λ b. cond b (times_of r j) 1) (sym is) ∙ product_one (choice told r) (length n.stages) (has_choice told n r intervals) one j low

few_times : (b : Bool) (times most : ℕ) → times ≤ most → cond b times 1 ≤ cond b most 1
few_times true times most few = few
few_times false times most few = omega arith

-- the whole range leaves each stage at most the times up to the horizon
pub choices_whole : (told : ℕ → Bool) (n : Net) → IsNetwork n → choices told n (whole_of n) ≤ (n.horizon + 1) ^ sum_below (λ j. cond (told j) 1 0) (length n.stages)
choices_whole told n valid =
    let r = whole_of n in
    let few = product_le (choice told r) (λ j. cond (told j) (n.horizon + 1) 1) (length n.stages)
    (λ j low. few_times (told j) (times_of r j) (n.horizon + 1)
    (let most = whole_most n j low in let last = (valid.stages j low).most in omega (arith, most, last))) in
    let power = product_power told (n.horizon + 1) (length n.stages) in
    omega (arith, few, power)

-- the choices of a range are those of its two halves, where a stage told is cut at a time that is not its last
pub choices_halves : (told : ℕ → Bool) (n : Net) (r : Range) (i v : ℕ) → i < length n.stages → told i ≡ true → HoldsTime r i v → HoldsTime r i (v + 1)
    → choices told n r ≡ choices told n (ended r i v) + choices told n (started r i v)
choices_halves told n r i v low is holds next =
    let left = ended r i v in
    let right = started r i v in
    let one = λ (q : Range). ap (λ b. cond b (times_of q i) 1) is in
    let last = get_or-set_same r.most i v 0 holds.most_there in
    let first = get_or-set_same r.least i (v + 1) 0 holds.least_there in
    let sum : times_of r i ≡ times_of left i + times_of right i = omega (arith, last, first, holds.not_early, next.not_late) in
    product_parts (choice told r) (choice told left) (choice told right) i (length n.stages) low (omega (arith, one r, one left, one right, sum))
    (λ j within other. (
      sym (ap (λ k. cond (told j) (k + 1 - get_or r.least j 0) 1) (get_or-set_other r.most i j v 0 other)),
      sym (ap (λ k. cond (told j) (get_or r.most j 0 + 1 - k) 1) (get_or-set_other r.least i j (v + 1) 0 other)),
    ))
