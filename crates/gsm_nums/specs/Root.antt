-- The square root of a number, rounded up.
use Rattle.std.specs.Prelude.{ℕ, zero, suc, ◌+◌, ◌*◌, ◌≤◌, nat_le, if◌then◌else◌}

-- x is the least whole number whose square is at least n
pub record IsRootUp (n x : ℕ) : Type 0 where
  pub root : n ≤ x * x
  pub least : (y : ℕ) → n ≤ y * y → x ≤ y

-- the root of a number, rounded up: that of the number before it, or one more where the square of that falls short
unfoldable pub root_up_of : ℕ → ℕ
root_up_of zero = 0
root_up_of (suc before) = if nat_le (suc before) (root_up_of before * root_up_of before) then root_up_of before else root_up_of before + 1
