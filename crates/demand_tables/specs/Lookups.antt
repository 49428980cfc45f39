-- Arcs by their suppliers, and excess demands that can be summed up.
use Rattle.std.specs.Prelude.{◌≡◌, ℕ, ◌<◌, ◌≤◌, List, [], length, slice_index_or, All}
use Rattle.service_model.specs.declared.limits.TheConstants.{MAX_ARCS}
use Rattle.stage_file.specs.declared.limits.TheConstants.{MAX_EXCESS, MAX_QUANTITY}
use Rattle.stage_file.specs.declared.arcs.ArcRow.{ArcRow}
use Rattle.demand_tables.specs.Demand.{arcs_from, excess_at}

-- each of so many stages has a list of the arcs to its customers
pub record HasArcs (stages : ℕ) (arcs : List ArcRow) (lists : List (List ArcRow)) : Type 0 where
  pub long : length lists ≡ stages
  pub each : (j : ℕ) → j < stages → slice_index_or lists j [] ≡ arcs_from arcs j

-- the customer on an arc has an excess demand without too large an entry
pub record IsAnswered (lists : List (List ℕ)) (a : ArcRow) : Type 0 where
  pub customer : a.customer < length lists
  pub quantity : a.quantity ≤ MAX_QUANTITY
  pub small : All (λ x. x ≤ MAX_EXCESS) (excess_at lists a.customer)

-- so have the customers on these arcs, which are not too many
pub record AreAnswered (lists : List (List ℕ)) (arcs : List ArcRow) : Type 0 where
  pub few : length arcs ≤ MAX_ARCS
  pub each : All (IsAnswered lists) arcs
