-- What came to a checker, beside it the halves of the ranges that splits cut, and the leaves.
use Rattle.std.specs.Prelude.{◌≡◌, ◌≢◌, ◌⊎◌, ◌↔◌, ℕ, ◌+◌, ◌*◌, List, [], ◌∷◌, ◌++◌, length, slice_index_or, Contains}
use Rattle.service_model.specs.declared.range.Range.{Range}
use Rattle.service_model.specs.declared.cert.Node.{Node}
use Rattle.service_model.specs.declared.cert.Split.{Split}
use Rattle.service_model.specs.declared.cert.Item.TheVariants.{Node as NodeItem, Split as SplitItem}
use Rattle.service_model.specs.Net.{Net}
use Rattle.service_model.specs.Ranges.{HasIntervals}
use Rattle.service_model.specs.CertRanges.{Cut, no_range, node_range}
use Rattle.service_model.specs.Held.{Held, none_held, held_with}
use Rattle.split_rules.specs.declared.halves.Halves.{Halves}
use Rattle.split_rules.specs.declared.leaves.Leaf.{Leaf}

-- what came, the halves that each split makes, and the leaves
pub record Arrivals : Type 0 where
  pub held : Held
  pub halves : List Halves
  pub leaves : List Leaf

-- nothing came
abbrev pub none_arrived : Arrivals
none_arrived = record { held = none_held; halves = []; leaves = [] }

-- what stands for the halves of a split that there is not
abbrev pub no_halves : Halves
no_halves = record { left = no_range; right = no_range }

-- the halves of split k
abbrev pub halves_at : List Halves → ℕ → Halves
halves_at halves k = slice_index_or halves k no_halves

-- the range is that of node k, and has an interval for each stage
pub record IsRangeOf (n : Net) (cuts : List Cut) (k : ℕ) (r : Range) : Type 0 where
  pub range : r ≡ node_range n cuts k
  pub intervals : HasIntervals n r

-- the halves are the ranges of the two nodes that come behind split k
pub record AreRangesOf (n : Net) (cuts : List Cut) (k : ℕ) (halves : Halves) : Type 0 where
  pub left : IsRangeOf n cuts (2 * k + 1) halves.left
  pub right : IsRangeOf n cuts (2 * k + 2) halves.right

-- a node came, and is a leaf of this bound
pub record IsNodeMore (old new : Arrivals) (x : Node) (bound : ℕ) : Type 0 where
  pub held : new.held ≡ held_with old.held (NodeItem x)
  pub halves : new.halves ≡ old.halves
  pub leaves : (q : Leaf) → Contains new.leaves q ↔ (Contains old.leaves q ⊎ (q ≡ record { bound = bound; node = length old.held.nodes }))

-- a split came, and the node of this bound that it names is no leaf any more
pub record IsSplitMore (old new : Arrivals) (s : Split) (made : Halves) (bound : ℕ) : Type 0 where
  pub held : new.held ≡ held_with old.held (SplitItem s)
  pub halves : new.halves ≡ old.halves ++ made ∷ []
  pub leaves : (q : Leaf) → Contains new.leaves q ↔ (Contains old.leaves q × (q ≢ record { bound = bound; node = s.node }))

-- nothing came, and the leaves are those that there were
pub record IsUnchanged (old new : Arrivals) : Type 0 where
  pub held : new.held ≡ old.held
  pub halves : new.halves ≡ old.halves
  pub leaves : (q : Leaf) → Contains new.leaves q ↔ Contains old.leaves q
