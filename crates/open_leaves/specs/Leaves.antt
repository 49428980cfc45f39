-- The order of leaves, and leaves without one of them.
use Rattle.std.specs.Prelude.{◌≡◌, ◌<◌, ◌⊎◌, List, ◌∷◌}
use Rattle.open_leaves.specs.declared.leaf.Leaf.{Leaf}

-- the leaf a comes before the leaf b: its bound is less, or equal and its number is lower
abbrev pub IsBefore : Leaf → Leaf → Type 0
IsBefore a b = (a.bound < b.bound) ⊎ ((a.bound ≡ b.bound) × (a.node < b.node))

-- the first leaf is taken out
abbrev pub IsWithout : List Leaf → List Leaf → Leaf → Type 0
IsWithout old new leaf = old ≡ leaf ∷ new
