-- The order in which the walk sees the stages, told step by step.
use Rattle.std.specs.Prelude.{◌≡◌, ℕ, ◌<◌, ◌≤◌, ◌⊎◌, List, length, slice_index, take, Contains}
use Rattle.service_model.specs.declared.stage.SupplyArc.{SupplyArc}
use Rattle.service_model.specs.Net.{arc_in}
use Rattle.service_model.specs.Forests.{Joins, AreNeighbours}

-- arc a leads on from place p to a stage y that was not seen
pub record IsWay (arcs : List SupplyArc) (seen : List ℕ) (p a y : ℕ) : Type 0 where
  pub place : p < length seen
  pub arc : a < length arcs
  pub joins : Joins (arc_in arcs a) (slice_index seen p) y
  pub new : ¬ Contains seen y

-- it is the first that leads on: by place, and then by number of the arc
pub record IsFirstWay (arcs : List SupplyArc) (seen : List ℕ) (p a y : ℕ) : Type 0 where
  pub way : IsWay arcs seen p a y
  pub first : (q b z : ℕ) → IsWay arcs seen q b z → (p < q) ⊎ ((p ≡ q) × (a ≤ b))

-- no arc leads on, and y is the lowest stage that was not seen
pub record IsNextRoot (stages : ℕ) (arcs : List SupplyArc) (seen : List ℕ) (y : ℕ) : Type 0 where
  pub stage : y < stages
  pub new : ¬ Contains seen y
  pub alone : (p a z : ℕ) → ¬ IsWay arcs seen p a z
  pub lowest : (z : ℕ) → z < stages → ¬ Contains seen z → y ≤ z

-- y is seen next
abbrev pub IsNextSeen : ℕ → List SupplyArc → List ℕ → ℕ → Type 0
IsNextSeen stages arcs seen y = IsNextRoot stages arcs seen y ⊎ ((p : ℕ) × (a : ℕ) × IsFirstWay arcs seen p a y)

-- each stage of the list is seen next after those before it
abbrev pub ComesNextSeen : ℕ → List SupplyArc → List ℕ → Type 0
ComesNextSeen stages arcs seen = (k : ℕ) → k < length seen → IsNextSeen stages arcs (take k seen) (slice_index seen k)

-- y is its own parent, since no stage before it is its neighbour
abbrev pub IsRootAfter : List SupplyArc → List ℕ → ℕ → ℕ → Type 0
IsRootAfter arcs before y x = (x ≡ y) × ((q : ℕ) → q < length before → ¬ AreNeighbours arcs (slice_index before q) y)

-- x is the parent of y, as the first of the stages before y that are its neighbours
abbrev pub IsChildAfter : List SupplyArc → List ℕ → ℕ → ℕ → Type 0
IsChildAfter arcs before y x =
    (p : ℕ) × (p < length before) × (x ≡ slice_index before p) × AreNeighbours arcs x y
    × ((q : ℕ) → q < p → ¬ AreNeighbours arcs (slice_index before q) y)

-- x is the parent of y, where these stages are seen before it: y itself, or the first of them that is its neighbour
abbrev pub IsParentAfter : List SupplyArc → List ℕ → ℕ → ℕ → Type 0
IsParentAfter arcs before y x = IsRootAfter arcs before y x ⊎ IsChildAfter arcs before y x

-- each stage that is seen has its parent
abbrev pub HasParents : List SupplyArc → List ℕ → List ℕ → Type 0
HasParents arcs seen parent = (k : ℕ) → k < length seen → IsParentAfter arcs (take k seen) (slice_index seen k) (slice_index parent (slice_index seen k))
