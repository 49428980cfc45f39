-- Ranges of outbound times, and the floors of inbound times that they leave.
use Rattle.std.specs.Prelude.{◌≡◌, ℕ, ◌+◌, ◌<◌, ◌≤◌, Bool, ◌==◌, min, max, List, [], ◌∷◌, length, slice_index, slice_set, map, if◌then◌else◌}
use Rattle.service_model.specs.declared.stage.SupplyArc.{SupplyArc}
use Rattle.service_model.specs.declared.plan.Plan.{Plan}
use Rattle.service_model.specs.declared.range.Range.{Range}
use Rattle.service_model.specs.Net.{Net, stage_at}
use Rattle.service_model.specs.Plans.{outbound_at}

-- the range of all outbound times that the stages may quote
abbrev pub whole_of : Net → Range
whole_of n = record { least = map (λ s. s.least) n.stages; most = map (λ s. s.most) n.stages }

-- the range has an interval of times up to the horizon for each stage
pub record HasIntervals (n : Net) (r : Range) : Type 0 where
  pub least : length r.least ≡ length n.stages
  pub most : length r.most ≡ length n.stages
  pub interval : (j : ℕ) → j < length n.stages → slice_index r.least j ≤ slice_index r.most j
  pub within : (j : ℕ) → j < length n.stages → slice_index r.most j ≤ n.horizon

-- the range's interval of stage i holds the time
pub record HoldsTime (r : Range) (i time : ℕ) : Type 0 where
  pub least_there : i < length r.least
  pub most_there : i < length r.most
  pub not_early : slice_index r.least i ≤ time
  pub not_late : time ≤ slice_index r.most i

-- the range with stage i's interval ended at a time
abbrev pub ended : Range → ℕ → ℕ → Range
ended r i time = record { least = r.least; most = slice_set r.most i time }

-- the range with stage i's interval started after a time
abbrev pub started : Range → ℕ → ℕ → Range
started r i time = record { least = slice_set r.least i (time + 1); most = r.most }

-- the left or the right half of the range at a time of stage i
abbrev pub half_of : Bool → Range → ℕ → ℕ → Range
half_of right r i time = if right then started r i time else ended r i time

-- each outbound time of the plan lies in the range's interval of its stage
abbrev pub IsIn : Net → Range → Plan → Type 0
IsIn n r p = (j : ℕ) → j < length n.stages → (slice_index r.least j ≤ outbound_at p j) × (outbound_at p j ≤ slice_index r.most j)

-- the later of a start and the one that an arc gives stage j: the interval start of its supplier, and its transit
abbrev pub start_by : SupplyArc → List ℕ → ℕ → ℕ → ℕ
start_by a starts j start = if a.customer == j then max (slice_index starts a.supplier + a.transit) start else start

-- the latest of a start and those that arcs give stage j
abbrev pub latest_start : List SupplyArc → List ℕ → ℕ → ℕ → ℕ
latest_start [] starts j start = start
latest_start (a ∷ arcs) starts j start = start_by a starts j (latest_start arcs starts j start)

-- the least inbound time of stage j in a range, H + 1 where none up to the horizon H is late enough
abbrev pub floor_of : Net → Range → ℕ → ℕ
floor_of n r j = min (n.horizon + 1) (latest_start n.arcs r.least j (stage_at n j).supply)

-- these are the floors of all stages in a range
pub record AreFloors (n : Net) (r : Range) (floors : List ℕ) : Type 0 where
  pub long : length floors ≡ length n.stages
  pub each : (j : ℕ) → j < length n.stages → slice_index floors j ≡ floor_of n r j
