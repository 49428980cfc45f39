-- The order of the walk, told by neighbours alone.
use Rattle.std.proofs.Common.{ℕ, ◌≡◌, ◌≢◌, ◌<◌, ◌≤◌, List, length, get_or, take, ◌∙◌, inl, inr, ⊎_elim, arith}
use Rattle.std.specs.Prelude.{Contains, ◌⊎◌}
use Rattle.std.proofs.lemmas.Bool.{cases_lt}
use Rattle.std.proofs.lemmas.List.{get_or_default, get_or-take, length-take}
use Rattle.service_model.specs.declared.stage.SupplyArc.{SupplyArc}
use Rattle.service_model.specs.Net.{arc_in}
use Rattle.service_model.specs.Forests.{Joins, AreNeighbours}
use Rattle.tree_order.proofs.ArcFacts.{find_place}

-- no neighbour of the stage at place k stands before it
abbrev pub IsRootAt : List SupplyArc → List ℕ → ℕ → Type 0
IsRootAt arcs seen k = (p : ℕ) → p < k → AreNeighbours arcs (get_or seen p 0) (get_or seen k 0) → ⊥

-- the first neighbour of the stage at place k stands before it, at place p, and arc a is the first between the two
pub record IsChildAt (arcs : List SupplyArc) (seen : List ℕ) (k p a : ℕ) : Type 0 where
  pub earlier : p < k
  pub arc : a < length arcs
  pub joins : Joins (arc_in arcs a) (get_or seen p 0) (get_or seen k 0)
  pub least_place : (q : ℕ) → q < p → AreNeighbours arcs (get_or seen q 0) (get_or seen k 0) → ⊥
  pub least_arc : (b : ℕ) → b < length arcs → Joins (arc_in arcs b) (get_or seen p 0) (get_or seen k 0) → a ≤ b

pub record IsWalkOrder (stages : ℕ) (arcs : List SupplyArc) (seen : List ℕ) : Type 0 where
  pub stage : (k : ℕ) → k < length seen → get_or seen k 0 < stages
  pub once : (k m : ℕ) → k < m → m < length seen → get_or seen k 0 ≢ get_or seen m 0
  pub each : (j : ℕ) → j < stages → Contains seen j
  -- a root is lower than all after it, and none after it has a neighbour before it
  pub lowest : (k m : ℕ) → IsRootAt arcs seen k → k < m → m < length seen → get_or seen k 0 < get_or seen m 0
  pub together : (k m p : ℕ) → IsRootAt arcs seen k → k < m → m < length seen → p < k → AreNeighbours arcs (get_or seen p 0) (get_or seen m 0) → ⊥
  -- the others stand by the place of the first neighbour, and then by the number of the arc
  pub sorted : (k m p q a b : ℕ) → k < m → m < length seen → IsChildAt arcs seen k p a → IsChildAt arcs seen m q b → (p < q) ⊎ ((p ≡ q) × (a < b))

pub find_child : (arcs : List SupplyArc) (seen : List ℕ) (k : ℕ) → IsRootAt arcs seen k ⊎ ((p : ℕ) × (a : ℕ) × IsChildAt arcs seen k p a)
find_child arcs seen k = ⊎_elim
    (λ none. inl none)
    (λ f. inr (
      f.0,
      f.1,
      record { earlier = f.2.low; arc = f.2.arc.low; joins = f.2.arc.joins; least_place = f.2.first; least_arc = λ b low j. f.2.arc.first b j },
    ))
    (find_place arcs seen k (get_or seen k 0))

-- a stage has a place
pub record IsPlaceOf (seen : List ℕ) (j k : ℕ) : Type 0 where
  pub inside : k < length seen
  pub is : get_or seen k 0 ≡ j

pub place_of : (seen : List ℕ) (j : ℕ) → Contains seen j → (k : ℕ) × IsPlaceOf seen j k
place_of seen j (k, inside, is) = (k, record { inside = inside; is = get_or_default seen k 0 j inside ∙ is })

-- a stage that is not in the first k places stands at k or after
pub later_place : (seen : List ℕ) (k z : ℕ) → Contains seen z → k < length seen → (Contains (take k seen) z → ⊥) → (m : ℕ) × (k ≤ m) × IsPlaceOf seen z m
later_place seen k z there inside new =
    let at = place_of seen z there in
    ⊎_elim
    (λ less. absurd (new (at.0, omega (arith, less, inside, length-take k seen), get_or-take k seen at.0 z less ∙ get_or_default seen at.0 z 0 at.1.inside ∙ at.1.is)))
    (λ le. (at.0, le, at.1))
    (cases_lt at.0 k)
