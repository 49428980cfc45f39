-- The arcs that lead to each stage, and when they bring its inputs.
use Rattle.std.specs.Prelude.{◌≡◌, ℕ, ◌+◌, ◌<◌, ◌≤◌, ◌==◌, max, if◌then◌else◌, List, [], ◌∷◌, length, slice_index, slice_index_or}
use Rattle.service_model.specs.declared.stage.SupplyArc.{SupplyArc}
use Rattle.service_model.specs.declared.limits.TheConstants.{MAX_HORIZON, MAX_TIME}
use Rattle.service_model.specs.Net.{Net}

-- the arcs to stage j, in their order
abbrev pub arcs_to : List SupplyArc → ℕ → List SupplyArc
arcs_to [] j = []
arcs_to (a ∷ arcs) j = if a.customer == j then a ∷ arcs_to arcs j else arcs_to arcs j

-- each stage has a list of the arcs that lead to it
pub record HasInputs (n : Net) (lists : List (List SupplyArc)) : Type 0 where
  pub long : length lists ≡ length n.stages
  pub each : (j : ℕ) → j < length n.stages → slice_index_or lists j [] ≡ arcs_to n.arcs j

-- an arc of a network brings what its supplier quotes no later than the horizon and its transit
pub record IsEarly (outbound : List ℕ) (a : SupplyArc) : Type 0 where
  pub there : a.supplier < length outbound
  pub quoted : slice_index outbound a.supplier ≤ MAX_HORIZON
  pub transit : a.transit ≤ MAX_TIME

-- the latest of a time and those at which these arcs bring what their suppliers quote
abbrev pub latest_input : List SupplyArc → List ℕ → ℕ → ℕ
latest_input [] outbound time = time
latest_input (a ∷ arcs) outbound time = max (slice_index outbound a.supplier + a.transit) (latest_input arcs outbound time)
