-- Numbers for groups of stages, by their lowest stage.
use Rattle.std.specs.Prelude.{◌≡◌, ◌≢◌, ℕ, ◌+◌, ◌<◌, ◌≤◌, ◌⊎◌, ◌++◌, ◌∷◌, [], ◌↔◌, Bool, List, length, slice_index, slice_set, MatchBool}

-- a head has its number, or gets the next one
abbrev pub Gives : ℕ → ℕ → List ℕ → List ℕ → ℕ → Type 0
Gives head last given given' last' =
    ((slice_index given head ≢ 0) × (given' ≡ given) × (last' ≡ last))
    ⊎ ((slice_index given head ≡ 0) × (given' ≡ slice_set given head (last + 1)) × (last' ≡ last + 1))

-- stages of one head have one number; numbers rise from 1 by the lowest stage
pub record AreNumbers (heads numbers : List ℕ) : Type 0 where
  pub long : length numbers ≡ length heads
  pub same : (x y : ℕ) → x < length heads → y < length heads → (slice_index numbers x ≡ slice_index numbers y) ↔ (slice_index heads x ≡ slice_index heads y)
  pub from_one : (x : ℕ) → x < length heads → 1 ≤ slice_index numbers x
  pub by_lowest : (x m : ℕ) → x < length heads → 1 ≤ m → m < slice_index numbers x → (y : ℕ) × (y < x) × (slice_index numbers y ≡ m)

-- a number comes to the end, where it is wanted
abbrev pub PushesIf : Bool → ℕ → List ℕ → List ℕ → Type 0
PushesIf wanted number numbers numbers' = MatchBool wanted (numbers' ≡ numbers ++ number ∷ []) (numbers' ≡ numbers)
