-- The forest of the walk: the order in which it sees the stages, their parents, and the arcs that it keeps.
use Rattle.std.specs.Prelude.{◌≡◌, ◌≢◌, ℕ, zero, suc, ◌<◌, ◌⊎◌, List, [], ◌∷◌, length, slice_index, slice_index_or, All, AllPairs, Contains}
use Rattle.std.specs.List.{flat_map}
use Rattle.service_model.specs.declared.stage.SupplyArc.{SupplyArc}
use Rattle.service_model.specs.Net.{arc_in}

-- an arc joins two stages, whichever way it leads
abbrev pub Joins : SupplyArc → ℕ → ℕ → Type 0
Joins a x y = ((a.supplier ≡ x) × (a.customer ≡ y)) ⊎ ((a.supplier ≡ y) × (a.customer ≡ x))

-- an arc joins two stages: they are neighbours
abbrev pub AreNeighbours : List SupplyArc → ℕ → ℕ → Type 0
AreNeighbours arcs x y = (a : ℕ) × (a < length arcs) × Joins (arc_in arcs a) x y

-- so many arcs join two stages, one after the other
abbrev pub Chain : List SupplyArc → ℕ → ℕ → ℕ → Type 0
Chain arcs x y zero = x ≡ y
Chain arcs x y (suc n) = (m : ℕ) × Chain arcs x m n × AreNeighbours arcs m y

-- two stages are of one group: arcs join them, directions aside
abbrev pub SameGroup : List SupplyArc → ℕ → ℕ → Type 0
SameGroup arcs x y = (n : ℕ) × Chain arcs x y n

-- none of its group stands before the stage at place k
abbrev pub IsFirstOfGroup : List SupplyArc → List ℕ → ℕ → Type 0
IsFirstOfGroup arcs seen k = (p : ℕ) → p < k → ¬ SameGroup arcs (slice_index seen p) (slice_index seen k)

-- of the neighbours of the stage at place k the one at place p stands first, and arc a joins the two
pub record IsTie (arcs : List SupplyArc) (seen : List ℕ) (k p a : ℕ) : Type 0 where
  pub place : p < length seen
  pub arc : a < length arcs
  pub joins : Joins (arc_in arcs a) (slice_index seen p) (slice_index seen k)
  pub first : (q : ℕ) → q < p → ¬ AreNeighbours arcs (slice_index seen q) (slice_index seen k)

-- the numbers below n, each once
pub record HasEachOnce (n : ℕ) (xs : List ℕ) : Type 0 where
  pub low : All (λ j. j < n) xs
  pub once : AllPairs (λ i j. i ≢ j) xs
  pub each : (j : ℕ) → j < n → Contains xs j

-- the order in which the walk sees the stages
pub record IsSeenOrder (stages : ℕ) (arcs : List SupplyArc) (seen : List ℕ) : Type 0 where
  pub each_once : HasEachOnce stages seen
  -- the stages of a group stand together
  pub together : (k l m : ℕ) → k < l → l < m → m < length seen
      → SameGroup arcs (slice_index seen k) (slice_index seen m) → SameGroup arcs (slice_index seen k) (slice_index seen l)
  -- the groups stand by their lowest stage, which comes first in its group
  pub lowest : (k m : ℕ) → IsFirstOfGroup arcs seen k → k < m → m < length seen → slice_index seen k < slice_index seen m
  -- the others stand by the place of the neighbour that stands first, and then by the number of the arc to it
  pub sorted : (k m p q a b : ℕ) → k < m → m < length seen → ¬ IsFirstOfGroup arcs seen k → ¬ IsFirstOfGroup arcs seen m
      → IsTie arcs seen k p a → IsTie arcs seen m q b → (p < q) ⊎ ((p ≡ q) × (a < b))

-- x is the parent of the stage at place k: the stage itself where it is the first of its group, else the neighbour that stands first
abbrev pub IsParentAt : List SupplyArc → List ℕ → ℕ → ℕ → Type 0
IsParentAt arcs seen k x =
    (IsFirstOfGroup arcs seen k × (x ≡ slice_index seen k))
    ⊎ ((p : ℕ) × (a : ℕ) × IsTie arcs seen k p a × (p < k) × (x ≡ slice_index seen p))

-- the walk sees the stages in this order, with these parents
pub record IsWalk (stages : ℕ) (arcs : List SupplyArc) (seen parent : List ℕ) : Type 0 where
  pub order : IsSeenOrder stages arcs seen
  pub long : length parent ≡ stages
  pub parents : (k : ℕ) → k < length seen → IsParentAt arcs seen k (slice_index parent (slice_index seen k))

-- stage j is a child of stage i; a root is its own parent, and no child
abbrev pub IsChildOf : List ℕ → ℕ → ℕ → Type 0
IsChildOf parent i j = (slice_index parent j ≡ i) × (i ≢ j)

-- the arc joins a parent and its child
abbrev pub IsKept : List ℕ → SupplyArc → Type 0
IsKept parent a = (slice_index parent a.supplier ≡ a.customer) ⊎ (slice_index parent a.customer ≡ a.supplier)

-- the numbers below n of which P holds, rising
pub record ArePicked (P : ℕ → Type 0) (n : ℕ) (xs : List ℕ) : Type 0 where
  pub rising : AllPairs (λ i j. i < j) xs
  pub low : All (λ j. j < n) xs
  pub only : (j : ℕ) → Contains xs j → P j
  pub all : (j : ℕ) → j < n → P j → Contains xs j

-- for each number i below count the numbers j below n of which P i j holds, rising
pub record ArePickedFor (P : ℕ → ℕ → Type 0) (count n : ℕ) (lists : List (List ℕ)) : Type 0 where
  pub long : length lists ≡ count
  pub each : (i : ℕ) → i < count → ArePicked (P i) n (slice_index_or lists i [])

-- the stage and those below it in the forest, so many steps deep
abbrev pub below_within : ℕ → List (List ℕ) → ℕ → List ℕ
below_within zero children i = []
below_within (suc steps) children i = i ∷ flat_map (below_within steps children) (slice_index_or children i [])
