-- The forest of a network.
use Rattle.std.specs.Prelude.{◌≡◌, ℕ, ◌<◌, ◌≤◌, ◌⊎◌, ◌==◌, List, length, slice_index, reverse, filter}
use Rattle.service_model.specs.declared.stage.SupplyArc.{SupplyArc}
use Rattle.service_model.specs.Net.{arc_in}
use Rattle.service_model.specs.Walks.{Leads}
use Rattle.service_model.specs.Forests.{IsWalk, IsChildOf, IsKept, ArePicked, ArePickedFor}
use Rattle.tree_order.specs.declared.forest.Forest.{Forest}

-- the forest of the walk over the stages
pub record IsForest (stages : ℕ) (arcs : List SupplyArc) (f : Forest) : Type 0 where
  -- the order is that in which the walk sees the stages, from the last to the first
  pub walk : IsWalk stages arcs (reverse f.order) f.parent
  pub children : ArePickedFor (IsChildOf f.parent) stages stages f.children
  pub dropped : ArePicked (λ a. ¬ IsKept f.parent (arc_in arcs a)) (length arcs) f.dropped

-- no other is the forest
abbrev pub IsOnlyForest : ℕ → List SupplyArc → Forest → Type 0
IsOnlyForest stages arcs f = (g : Forest) → IsForest stages arcs g → g ≡ f

-- no stage stands after its parent
abbrev pub ChildrenFirst : Forest → Type 0
ChildrenFirst f =
    (k m : ℕ) → k < length f.order → m < length f.order → slice_index f.parent (slice_index f.order k) ≡ slice_index f.order m → k ≤ m

-- each child is a supplier or a customer of its parent, and not both
abbrev pub HasOneSide : List SupplyArc → Forest → Type 0
HasOneSide arcs f =
    (i j : ℕ) → j < length f.parent → IsChildOf f.parent i j
    → (Leads arcs j i × ¬ Leads arcs i j) ⊎ (Leads arcs i j × ¬ Leads arcs j i)

-- the roots, in the order
abbrev pub roots_of : Forest → List ℕ
roots_of f = filter (λ j. slice_index f.parent j == j) f.order
