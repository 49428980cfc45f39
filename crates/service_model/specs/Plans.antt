-- Which plans a network allows, and what they cost.
use Rattle.std.specs.Prelude.{◌≡◌, ℕ, ◌<◌, ◌≤◌, ◌+◌, ◌-◌, List, length, slice_index, slice_index_or, nat_le, All, if◌then◌else◌}
use Rattle.service_model.specs.declared.limits.TheConstants.{INF}
use Rattle.service_model.specs.declared.stage.Stage.{Stage}
use Rattle.service_model.specs.declared.stage.SupplyArc.{SupplyArc}
use Rattle.service_model.specs.declared.plan.Plan.{Plan}
use Rattle.service_model.specs.Net.{Net, stage_at}
use Rattle.service_model.specs.Search.{sum_below}

-- the entry of a cost list at a time, INF past its end
abbrev pub entry_of : List ℕ → ℕ → ℕ
entry_of cost time = slice_index_or cost time INF

-- what these times cost under a lead time and a cost list, INF where the net replenishment time is negative
abbrev pub charge : ℕ → List ℕ → ℕ → ℕ → ℕ
charge lead cost inbound outbound =
    if nat_le outbound (inbound + lead) then entry_of cost (inbound + lead - outbound) else INF

-- the inbound time of stage j
abbrev pub inbound_at : Plan → ℕ → ℕ
inbound_at p j = slice_index p.inbound j

-- the outbound time of stage j
abbrev pub outbound_at : Plan → ℕ → ℕ
outbound_at p j = slice_index p.outbound j

-- what the plan costs at stage j
abbrev pub stage_cost : Net → Plan → ℕ → ℕ
stage_cost n p j = charge (stage_at n j).lead (stage_at n j).cost (inbound_at p j) (outbound_at p j)

-- the sum of the stages' costs
abbrev pub cost_of : Net → Plan → ℕ
cost_of n p = sum_below (stage_cost n p) (length n.stages)

-- the plan gives each stage its two times
pub record HasTimes (n : Net) (p : Plan) : Type 0 where
  pub inbound : length p.inbound ≡ length n.stages
  pub outbound : length p.outbound ≡ length n.stages

-- a stage's two times are within its limits under a horizon, and its net replenishment time is allowed
pub record FitsTimes (horizon : ℕ) (s : Stage) (inbound outbound : ℕ) : Type 0 where
  pub supplied : s.supply ≤ inbound
  pub within : inbound ≤ horizon
  pub not_early : s.least ≤ outbound
  pub not_late : outbound ≤ s.most
  pub allowed : charge s.lead s.cost inbound outbound < INF

-- the plan's times at stage j fit the stage
abbrev pub FitsStage : Net → Plan → ℕ → Type 0
FitsStage n p j = FitsTimes n.horizon (stage_at n j) (inbound_at p j) (outbound_at p j)

-- the customer waits for the supplier's outbound time and the transit
abbrev pub Meets : Plan → SupplyArc → Type 0
Meets p a = outbound_at p a.supplier + a.transit ≤ inbound_at p a.customer

-- the plan fits each stage and meets each arc
pub record Feasible (n : Net) (p : Plan) : Type 0 where
  pub times : HasTimes n p
  pub stages : (j : ℕ) → j < length n.stages → FitsStage n p j
  pub arcs : All (Meets p) n.arcs

-- the plan is feasible, and no feasible plan costs less
pub record Least (n : Net) (p : Plan) : Type 0 where
  pub feasible : Feasible n p
  pub least : (q : Plan) → Feasible n q → cost_of n p ≤ cost_of n q

-- no plan is feasible
abbrev pub Empty : Net → Type 0
Empty n = (p : Plan) → ¬ Feasible n p
