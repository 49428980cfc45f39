-- One number alone is the square root of n, rounded up: `root_up_of n`.
use Rattle.std.proofs.Common.{◌≡◌, ℕ, zero, suc, ◌+◌, ◌*◌, ◌<◌, ◌≤◌, nat_le, Bool, true, false, if◌then◌else◌, refl, arith, inl, inr}
use Rattle.std.proofs.lemmas.Bool.{cases_lt}
use Rattle.std.proofs.lemmas.Bool.Decides.{nat_tests}
use Rattle.gsm_nums.specs.Root.{IsRootUp, root_up_of}

-- squares keep the order
pub square_le : (x y : ℕ) → x ≤ y → x * x ≤ y * y
square_le x y less = grind arith

pub root_lt : (x y : ℕ) → x * x < y * y → x < y
root_lt x y less = elim (cases_lt x y) [ inl below ↦ below | inr above ↦ absurd (omega (arith, square_le y x above)) ]

-- the root rounded down is the root rounded up where its square is n
pub root_down : (n down : ℕ) → down * down ≡ n → IsRootUp n down
root_down n down square = record {
  root = omega arith;
  least = λ y reaches. elim (cases_lt y down) [ inl below ↦ absurd (omega (arith, square_le (y + 1) down (omega arith))) | inr above ↦ above ];
}

-- and else one more is
pub root_one_more : (n down : ℕ) → down * down < n → n ≤ (down + 1) * (down + 1) → IsRootUp n (down + 1)
root_one_more n down short reaches = record {
  root = reaches;
  least = λ y enough. omega (arith, root_lt down y (omega arith));
}

-- no other number is the root
pub same_root : (n x y : ℕ) → IsRootUp n x → IsRootUp n y → x ≡ y
same_root n x y first second = omega (arith, first.least y second.root, second.least x first.root)

-- from the root of a number to that of the next, by whether its square reaches that
next_root : (before root : ℕ) (reaches : Bool) → nat_le (suc before) (root * root) ≡ reaches → IsRootUp before root
    → IsRootUp (suc before) (if reaches then root else root + 1)
next_root before root true told is = record {
  root = grind (arith, nat_tests);
  least = λ y enough. is.least y (omega arith);
}
next_root before root false told is =
    let square : root * root < suc before = grind (arith, nat_tests) in
    root_one_more (suc before) root square (omega arith)

-- `root_up_of` is the root
pub root_up_is : (n : ℕ) → IsRootUp n (root_up_of n)
unfolding root_up_of
root_up_is zero = record { root = omega arith; least = λ y reaches. omega arith }
root_up_is (suc before) = next_root before (root_up_of before) _ refl (root_up_is before)

pub root_up_value : (n x : ℕ) → IsRootUp n x → x ≡ root_up_of n
root_up_value n x is = same_root n x (root_up_of n) is (root_up_is n)
