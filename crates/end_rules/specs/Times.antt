-- The times of repairs, for all stages.
use Rattle.std.specs.Prelude.{◌≡◌, ℕ, ◌<◌, List, length, slice_index}
use Rattle.service_model.specs.declared.plan.Plan.{Plan}
use Rattle.service_model.specs.Net.{Net}
use Rattle.service_model.specs.Plans.{inbound_at, outbound_at}
use Rattle.service_model.specs.Repairs.{latest_arrival, earliest_need}

-- the times at which the stages have all their inputs under the plan
pub record AreArrivals (n : Net) (q : Plan) (times : List ℕ) : Type 0 where
  pub long : length times ≡ length n.stages
  pub each : (j : ℕ) → j < length n.stages → slice_index times j ≡ latest_arrival n.arcs q j (inbound_at q j)

-- the times by which all customers need the stages' outputs under the plan
pub record AreNeeds (n : Net) (q : Plan) (times : List ℕ) : Type 0 where
  pub long : length times ≡ length n.stages
  pub each : (j : ℕ) → j < length n.stages → slice_index times j ≡ earliest_need n.arcs q j (outbound_at q j)
