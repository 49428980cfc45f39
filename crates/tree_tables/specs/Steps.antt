-- Single steps of reading a plan back from tight tables.
use Rattle.std.specs.Prelude.{◌≡◌, ℕ, ◌+◌, ◌<◌, ◌≤◌, List, length, slice_index, slice_set}
use Rattle.service_model.specs.declared.limits.TheConstants.{INF}
use Rattle.service_model.specs.declared.plan.Plan.{Plan}
use Rattle.service_model.specs.declared.stage.SupplyArc.{SupplyArc}
use Rattle.service_model.specs.declared.table.Kind.{Kind}
use Rattle.service_model.specs.declared.table.Kind.TheVariants.{Down, Up, Root}
use Rattle.service_model.specs.declared.table.Table.{Table}
use Rattle.service_model.specs.Net.{Net}
use Rattle.service_model.specs.Plans.{HasTimes}
use Rattle.service_model.specs.Tables.{table_at, transit_in, place_of}
use Rattle.service_model.specs.LocalSums.{least_below, local_sum, Covers}
use Rattle.service_model.specs.Nodes.{below, AreTightBelow, IsOnce}
use Rattle.tree_tables.specs.declared.times.Window.{Window}

-- the times that a value of the kind covers at a place, of an interval and a floor
abbrev pub window : Kind → ℕ → ℕ → ℕ → ℕ → ℕ → Window
window Down horizon least most floor place = record { from = floor; to = horizon + 1; least = least + place; end = least + place + 1 }
window Up horizon least most floor place = record { from = floor + place; to = floor + place + 1; least = least; end = most + 1 }
window Root horizon least most floor place = record { from = floor; to = horizon + 1; least = least; end = most + 1 }

-- two times are among those of the window
pub record IsInWindow (w : Window) (inbound outbound : ℕ) : Type 0 where
  pub not_below : w.from ≤ inbound
  pub not_above : inbound < w.to
  pub not_early : w.least ≤ outbound
  pub not_late : outbound < w.end

-- the table's value at the place covers the times, and is their local sum
pub record Attains (n : Net) (tables : List Table) (t : Table) (place inbound outbound : ℕ) : Type 0 where
  pub covers : Covers n t inbound outbound
  pub stands : place_of t inbound outbound ≡ place
  pub value : slice_index t.values place ≡ local_sum n tables t inbound outbound

-- a child of the kind that stands at the place meets the arc to its parent, of stage j, at these times
abbrev pub MeetsAt : Kind → List SupplyArc → Table → ℕ → ℕ → ℕ → ℕ → Type 0
MeetsAt Down arcs c j inbound outbound place = c.least + place + transit_in arcs c.stage j ≤ inbound
MeetsAt Up arcs c j inbound outbound place = outbound + transit_in arcs j c.stage ≤ c.floor + place
MeetsAt Root arcs c j inbound outbound place = ⊥

-- at the place the child c of t has its least value that these times of t allow
pub record IsChildPlace (n : Net) (c t : Table) (inbound outbound place : ℕ) : Type 0 where
  pub within : place < length c.values
  pub value : slice_index c.values place ≡ least_below n t inbound outbound c
  pub met : MeetsAt c.kind n.arcs c t.stage inbound outbound place

-- the plan with other times at stage j
abbrev pub with_times : Plan → ℕ → ℕ → ℕ → Plan
with_times p j inbound outbound = record { inbound = slice_set p.inbound j inbound; outbound = slice_set p.outbound j outbound }

-- what it takes to read a plan back from the value of table i at a place
pub record IsTraceable (n : Net) (tables : List Table) (i place : ℕ) (p : Plan) : Type 0 where
  pub tight : AreTightBelow n tables i
  pub once : IsOnce tables (below tables i)
  pub within : place < length (table_at tables i).values
  pub reached : slice_index (table_at tables i).values place < INF
  pub times : HasTimes n p
