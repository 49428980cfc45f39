-- Networks on which every rule holds.
use Rattle.std.specs.Prelude.{◌≢◌, ℕ, ◌+◌, ◌<◌, ◌≤◌, length, All}
use Rattle.service_model.specs.declared.limits.TheConstants.{INF, MAX_HORIZON, MAX_STAGES, MAX_ARCS, MAX_TIME, MAX_BEYOND, MAX_PLAN_COST}
use Rattle.service_model.specs.declared.stage.Stage.{Stage}
use Rattle.service_model.specs.declared.stage.SupplyArc.{SupplyArc}
use Rattle.service_model.specs.Net.{Net, stage_at, arc_in}
use Rattle.service_model.specs.Walks.{NoCycle}
use Rattle.service_model.specs.Faults.{tops_below, IsSameEnds}

-- a stage keeps its limits under a horizon
pub record StageWithin (horizon : ℕ) (s : Stage) : Type 0 where
  pub lead : s.lead ≤ MAX_TIME
  pub supply : s.supply ≤ horizon
  pub most : s.most ≤ horizon
  pub least : s.least ≤ s.most
  pub some_cost : 0 < length s.cost
  pub cost_length : length s.cost ≤ horizon + MAX_BEYOND
  pub entries : All (λ x. x ≤ INF) s.cost

-- an arc joins two different stages of so many
pub record ArcWithin (stages : ℕ) (a : SupplyArc) : Type 0 where
  pub supplier : a.supplier < stages
  pub customer : a.customer < stages
  pub apart : a.supplier ≢ a.customer
  pub transit : a.transit ≤ MAX_TIME

-- all rules hold
pub record IsNetwork (n : Net) : Type 0 where
  pub horizon : n.horizon ≤ MAX_HORIZON
  pub some_stage : 0 < length n.stages
  pub few_stages : length n.stages ≤ MAX_STAGES
  pub stages : (j : ℕ) → j < length n.stages → StageWithin n.horizon (stage_at n j)
  pub payable : tops_below n (length n.stages) ≤ MAX_PLAN_COST
  pub few_arcs : length n.arcs ≤ MAX_ARCS
  pub arcs : (a : ℕ) → a < length n.arcs → ArcWithin (length n.stages) (arc_in n.arcs a)
  pub once : (a b : ℕ) → a < b → b < length n.arcs → IsSameEnds (arc_in n.arcs a) (arc_in n.arcs b) → ⊥
  pub acyclic : NoCycle (length n.stages) n.arcs

-- all rules hold, but perhaps the one on cycles
pub record KeepsLimits (n : Net) : Type 0 where
  pub horizon : n.horizon ≤ MAX_HORIZON
  pub some_stage : 0 < length n.stages
  pub few_stages : length n.stages ≤ MAX_STAGES
  pub stages : (j : ℕ) → j < length n.stages → StageWithin n.horizon (stage_at n j)
  pub payable : tops_below n (length n.stages) ≤ MAX_PLAN_COST
  pub few_arcs : length n.arcs ≤ MAX_ARCS
  pub arcs : (a : ℕ) → a < length n.arcs → ArcWithin (length n.stages) (arc_in n.arcs a)
  pub once : (a b : ℕ) → a < b → b < length n.arcs → IsSameEnds (arc_in n.arcs a) (arc_in n.arcs b) → ⊥
