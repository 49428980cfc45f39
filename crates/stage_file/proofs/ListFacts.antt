-- Places in lists.
use Rattle.std.proofs.Common.{◌≡◌, ℕ, ◌+◌, ◌<◌, ◌≤◌, Bool, true, false, cond, not, ◌||◌, ltb, List, [], ◌∷◌, length, map, take, get_or, position, Some, None, All, refl, ap, arith}
use Rattle.std.proofs.lemmas.Bool.{ltb-false, lt-ltb, le-ltb}
use Rattle.std.proofs.lemmas.List.{length-map, length-take, get_or-take}
use Rattle.std.proofs.lemmas.List.Sums.{fails_before_first, position_or_len_is}
use Rattle.std.specs.List.{list_any, prefix_len, position_or_len}

prefix_len_seen : {X Y : Type 0} (see : X → Y) (test : Y → Bool) (xs : List X) → prefix_len (λ x. test (see x)) xs ≡ prefix_len test (map see xs)
prefix_len_seen see test [] = refl
prefix_len_seen see test (x ∷ xs) = ap (λ (n : ℕ). cond (test (see x)) (1 + n) 0) (prefix_len_seen see test xs)

-- a place among values is the place among what is seen of them
pub position_seen : {X Y : Type 0} (see : X → Y) (test : Y → Bool) (xs : List X) → position (λ x. test (see x)) xs ≡ position test (map see xs)
position_seen see test xs =
    let at = prefix_len_seen see (λ y. not (test y)) xs in
    rw (length-map xs see, ← at) refl

none_if : (b : Bool) (n : ℕ) → cond b (Some n) None ≡ None → b ≡ false
none_if true n none = cc
none_if false n none = refl

-- where there is no place, each fails
pub all_fail : {X : Type 0} (test : X → Bool) (xs : List X) → position test xs ≡ None → All (λ x. test x ≡ false) xs
all_fail test xs none =
    let far : length xs ≤ position_or_len test xs = ltb-false (position_or_len test xs) (length xs) (none_if (ltb (position_or_len test xs) (length xs)) (position_or_len test xs) none) in
    λ k d within. fails_before_first test xs k d (omega arith)

-- the place of the first that passes
pub first_place : {X : Type 0} (test : X → Bool) (xs : List X) (k : ℕ) (d : X) → k < length xs → All (λ x. test x ≡ false) (take k xs) → test (get_or xs k d) ≡ true → position test xs ≡ Some k
first_place test xs k d within before here =
    let each = λ (i : ℕ) (l : i < k). rw get_or-take at (before i d (omega (arith, length-take k xs))) in
    let at : position_or_len test xs ≡ k = position_or_len_is test xs k d (omega arith) each (λ l. here) in
    rw (at, lt-ltb k (length xs) within) refl

-- where each fails, there is no place
pub no_place : {X : Type 0} (test : X → Bool) (xs : List X) (d : X) → All (λ x. test x ≡ false) xs → position test xs ≡ None
no_place test xs d fail =
    let at : position_or_len test xs ≡ length xs = position_or_len_is test xs (length xs) d (omega arith) (λ k l. fail k d l) (λ l. absurd (omega arith)) in
    rw (at, le-ltb (length xs) (length xs) (omega arith)) refl

-- some value passes where what is seen of it does
pub list_any_seen : {X Y : Type 0} (see : X → Y) (test : Y → Bool) (xs : List X) → list_any (λ x. test (see x)) xs ≡ list_any test (map see xs)
list_any_seen see test [] = refl
list_any_seen see test (x ∷ xs) = ap (λ (b : Bool). test (see x) || b) (list_any_seen see test xs)
