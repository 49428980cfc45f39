-- The order in which suppliers come first.
use Rattle.std.specs.Prelude.{ℕ, ◌<◌, ◌≤◌, List, length, slice_index, take, Contains}
use Rattle.service_model.specs.declared.stage.SupplyArc.{SupplyArc}
use Rattle.service_model.specs.Walks.{Leads}

-- stage j is not taken, and all its suppliers are
pub record IsReady (stages : ℕ) (arcs : List SupplyArc) (taken : List ℕ) (j : ℕ) : Type 0 where
  pub stage : j < stages
  pub new : ¬ Contains taken j
  pub suppliers : (i : ℕ) → Leads arcs i j → Contains taken i

-- no stage below stage j is ready, and stage j is
pub record IsLowestReady (stages : ℕ) (arcs : List SupplyArc) (taken : List ℕ) (j : ℕ) : Type 0 where
  pub ready : IsReady stages arcs taken j
  pub lowest : (k : ℕ) → IsReady stages arcs taken k → j ≤ k

-- each stage of the list is the lowest that is ready once those before it are taken
abbrev pub ComesNext : ℕ → List SupplyArc → List ℕ → Type 0
ComesNext stages arcs order = (k : ℕ) → k < length order → IsLowestReady stages arcs (take k order) (slice_index order k)

-- the list takes again and again the lowest ready stage, until none is ready
pub record IsFront (stages : ℕ) (arcs : List SupplyArc) (order : List ℕ) : Type 0 where
  pub next : ComesNext stages arcs order
  pub rest : (j : ℕ) → ¬ IsReady stages arcs order j

-- the list takes again and again the lowest ready stage, until all are taken
pub record IsTopological (stages : ℕ) (arcs : List SupplyArc) (order : List ℕ) : Type 0 where
  pub next : ComesNext stages arcs order
  pub each : (j : ℕ) → j < stages → Contains order j
