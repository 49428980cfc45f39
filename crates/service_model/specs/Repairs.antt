-- Repairs of relaxed plans, and the best plan that they find.
use Rattle.std.specs.Prelude.{◌≡◌, ℕ, ◌+◌, ◌-◌, ◌*◌, ◌<◌, ◌≤◌, ◌==◌, nat_lt, min, max, List, [], ◌∷◌, length, slice_index_or, Option, Some, None, if◌then◌else◌}
use Rattle.service_model.specs.declared.stage.SupplyArc.{SupplyArc}
use Rattle.service_model.specs.declared.plan.Plan.{Plan}
use Rattle.service_model.specs.Net.{Net, stage_at}
use Rattle.service_model.specs.Plans.{HasTimes, Feasible, inbound_at, outbound_at, cost_of}

-- the later of a time and the one at which an arc brings stage j its input
abbrev pub arrival_by : SupplyArc → Plan → ℕ → ℕ → ℕ
arrival_by a p j time = if a.customer == j then max (outbound_at p a.supplier + a.transit) time else time

-- the latest of a time and those at which arcs bring stage j its inputs
abbrev pub latest_arrival : List SupplyArc → Plan → ℕ → ℕ → ℕ
latest_arrival [] p j time = time
latest_arrival (a ∷ arcs) p j time = arrival_by a p j (latest_arrival arcs p j time)

-- the earlier of a time and the one by which an arc's customer needs the output of stage j, 0 where that is negative
abbrev pub need_by : SupplyArc → Plan → ℕ → ℕ → ℕ
need_by a p j time = if a.supplier == j then min (inbound_at p a.customer - a.transit) time else time

-- the earliest of a time and those by which customers need the output of stage j
abbrev pub earliest_need : List SupplyArc → Plan → ℕ → ℕ → ℕ
earliest_need [] p j time = time
earliest_need (a ∷ arcs) p j time = need_by a p j (earliest_need arcs p j time)

-- the ways to repair a plan
pub data Repair : Type 0 where
  Raise : Repair
  Lower : Repair
  Shift : Repair

-- what the repair of plan q to plan p does at stage j: it waits for all inputs; or it quotes what all customers wait
-- for; or it waits for all inputs as they are after the repair, and quotes as much more, but no more than it may
abbrev pub RepairsStage : Repair → Net → Plan → Plan → ℕ → Type 0
RepairsStage Raise n q p j =
    (inbound_at p j ≡ latest_arrival n.arcs q j (inbound_at q j)) × (outbound_at p j ≡ outbound_at q j)
RepairsStage Lower n q p j =
    (inbound_at p j ≡ inbound_at q j) × (outbound_at p j ≡ earliest_need n.arcs q j (outbound_at q j))
RepairsStage Shift n q p j =
    (inbound_at p j ≡ latest_arrival n.arcs p j (inbound_at q j))
    × (outbound_at p j ≡ min (stage_at n j).most (outbound_at q j + (inbound_at p j - inbound_at q j)))

-- plan p is the repair of plan q
pub record IsRepair (kind : Repair) (n : Net) (q p : Plan) : Type 0 where
  pub times : HasTimes n p
  pub stages : (j : ℕ) → j < length n.stages → RepairsStage kind n q p j

-- a relaxed plan that is repaired has two times for each stage, none above its limit
pub record IsRepairable (n : Net) (q : Plan) : Type 0 where
  pub times : HasTimes n q
  pub stages : (j : ℕ) → j < length n.stages → (inbound_at q j ≤ n.horizon) × (outbound_at q j ≤ (stage_at n j).most)

-- plan p is the feasible repair of a relaxed plan, where there is one
pub record IsCandidateOf (n : Net) (relaxed : Option Plan) (kind : Repair) (p : Plan) : Type 0 where
  pub from : Plan
  pub there : relaxed ≡ Some from
  pub repairable : IsRepairable n from
  pub repair : IsRepair kind n from p
  pub feasible : Feasible n p

-- plan p is the feasible repair of the relaxed plan of node k
abbrev pub IsCandidate : Net → List (Option Plan) → ℕ → Repair → Plan → Type 0
IsCandidate n relaxed k kind p = IsCandidateOf n (slice_index_or relaxed k None) kind p

-- the turn of a repair among those of a plan
abbrev pub turn : Repair → ℕ
turn Raise = 0
turn Lower = 1
turn Shift = 2

-- plan p is the first of the feasible repairs that cost least, by node and then by turn
pub record IsFound (n : Net) (relaxed : List (Option Plan)) (p : Plan) : Type 0 where
  pub node : ℕ
  pub kind : Repair
  pub candidate : IsCandidate n relaxed node kind p
  pub least : (k : ℕ) (other : Repair) (q : Plan) → IsCandidate n relaxed k other q → cost_of n p ≤ cost_of n q
  pub first : (k : ℕ) (other : Repair) (q : Plan) → IsCandidate n relaxed k other q
      → 3 * k + turn other < 3 * node + turn kind → cost_of n p < cost_of n q

-- the best plan that repairs of the nodes' relaxed plans find, none where no repair is feasible
abbrev pub Found : Net → List (Option Plan) → Option Plan → Type 0
Found n relaxed None = (k : ℕ) (kind : Repair) (p : Plan) → ¬ IsCandidate n relaxed k kind p
Found n relaxed (Some p) = IsFound n relaxed p

-- plan p is the first of the feasible repairs of one relaxed plan that cost least
pub record IsFoundOf (n : Net) (relaxed : Option Plan) (p : Plan) : Type 0 where
  pub kind : Repair
  pub candidate : IsCandidateOf n relaxed kind p
  pub least : (other : Repair) (q : Plan) → IsCandidateOf n relaxed other q → cost_of n p ≤ cost_of n q
  pub first : (other : Repair) (q : Plan) → IsCandidateOf n relaxed other q → turn other < turn kind → cost_of n p < cost_of n q

-- the best plan that repairs of one relaxed plan find, none where no repair is feasible
abbrev pub FoundOf : Net → Option Plan → Option Plan → Type 0
FoundOf n relaxed None = (kind : Repair) (p : Plan) → ¬ IsCandidateOf n relaxed kind p
FoundOf n relaxed (Some p) = IsFoundOf n relaxed p

-- of an earlier and a later plan the later one only where it costs less
abbrev pub better : Net → Option Plan → Option Plan → Option Plan
better n None later = later
better n (Some p) None = Some p
better n (Some p) (Some q) = if nat_lt (cost_of n q) (cost_of n p) then Some q else Some p
