-- Marks on tables by their numbers.
use Rattle.std.specs.Prelude.{◌≡◌, ℕ, Bool, true, false, List, length, slice_index_or, All, Contains, ◌⊎◌}

-- the number is marked
abbrev pub IsMarked : List Bool → ℕ → Type 0
IsMarked marks k = slice_index_or marks k false ≡ true

-- the marks of these numbers are set, and no others
pub record MarksMore (numbers : List ℕ) (old new : List Bool) : Type 0 where
  pub long : length new ≡ length old
  pub keeps : (k : ℕ) → IsMarked old k → IsMarked new k
  pub sets : All (IsMarked new) numbers
  pub only : (k : ℕ) → IsMarked new k → IsMarked old k ⊎ Contains numbers k
