-- Lists to which numbers come one after the other.
use Rattle.std.specs.Prelude.{◌≡◌, ◌≢◌, ℕ, Bool, ◌⊎◌, ◌++◌, ◌∷◌, [], List, slice_index_or, slice_set, MatchBool}

-- a number comes to the end of a list, unless it is the list's own
abbrev pub PutsIn : ℕ → ℕ → List (List ℕ) → List (List ℕ) → Type 0
PutsIn at number lists lists' =
    ((at ≡ number) × (lists' ≡ lists))
    ⊎ ((at ≢ number) × (lists' ≡ slice_set lists at (slice_index_or lists at [] ++ number ∷ [])))

-- a number comes to the end, where it is wanted
abbrev pub PushesIf : Bool → ℕ → List ℕ → List ℕ → Type 0
PushesIf wanted number numbers numbers' = MatchBool wanted (numbers' ≡ numbers ++ number ∷ []) (numbers' ≡ numbers)
