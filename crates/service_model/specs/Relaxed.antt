-- The least cost of a range where the arcs that the forest drops are left out.
use Rattle.std.specs.Prelude.{◌≡◌, ◌≢◌, ℕ, ◌<◌, ◌≤◌, ◌⊎◌, List, [], length, slice_index, slice_index_or, map}
use Rattle.service_model.specs.declared.limits.TheConstants.{INF}
use Rattle.service_model.specs.declared.stage.SupplyArc.{SupplyArc}
use Rattle.service_model.specs.declared.plan.Plan.{Plan}
use Rattle.service_model.specs.declared.range.Range.{Range}
use Rattle.service_model.specs.declared.table.Kind.{Kind}
use Rattle.service_model.specs.declared.table.Kind.TheVariants.{Down, Up, Root}
use Rattle.service_model.specs.declared.table.Table.{Table}
use Rattle.service_model.specs.Net.{Net, arc_in}
use Rattle.service_model.specs.Plans.{HasTimes, Meets, inbound_at, outbound_at, stage_cost, cost_of}
use Rattle.service_model.specs.Walks.{Leads}
use Rattle.service_model.specs.Ranges.{floor_of}
use Rattle.service_model.specs.Forests.{IsKept}

-- the plan's times of stage j lie in the range and between its floor and the horizon, and are allowed
pub record FitsRange (n : Net) (r : Range) (p : Plan) (j : ℕ) : Type 0 where
  pub not_early : slice_index r.least j ≤ outbound_at p j
  pub not_late : outbound_at p j ≤ slice_index r.most j
  pub not_below : floor_of n r j ≤ inbound_at p j
  pub not_above : inbound_at p j ≤ n.horizon
  pub allowed : stage_cost n p j < INF

-- a plan of the range that meets the arcs between parents and children
pub record IsRelaxedPlan (n : Net) (r : Range) (parent : List ℕ) (p : Plan) : Type 0 where
  pub times : HasTimes n p
  pub stages : (j : ℕ) → j < length n.stages → FitsRange n r p j
  pub arcs : (a : ℕ) → a < length n.arcs → IsKept parent (arc_in n.arcs a) → Meets p (arc_in n.arcs a)

-- the least cost of such plans, INF where there is none
pub record IsRelaxedLeast (n : Net) (r : Range) (parent : List ℕ) (b : ℕ) : Type 0 where
  pub lower : (p : Plan) → IsRelaxedPlan n r parent p → b ≤ cost_of n p
  pub reached : (b ≡ INF) ⊎ ((p : Plan) × IsRelaxedPlan n r parent p × (cost_of n p ≡ b))

-- the kind of stage j's table, by the stage's parent: a customer of it, a supplier, or the stage itself
abbrev pub IsKindOf : List SupplyArc → List ℕ → ℕ → Kind → Type 0
IsKindOf arcs parent j Down = (slice_index parent j ≢ j) × Leads arcs j (slice_index parent j)
IsKindOf arcs parent j Up = (slice_index parent j ≢ j) × Leads arcs (slice_index parent j) j
IsKindOf arcs parent j Root = slice_index parent j ≡ j

-- the table is that of stage j in the range, over the tables at the numbers of the stage's children
pub record IsTableOf (n : Net) (r : Range) (parent : List ℕ) (lists : List (List ℕ)) (numbers : List ℕ) (j : ℕ) (t : Table) : Type 0 where
  pub stage : t.stage ≡ j
  pub kind : IsKindOf n.arcs parent j t.kind
  pub least : t.least ≡ slice_index r.least j
  pub most : t.most ≡ slice_index r.most j
  pub floor : t.floor ≡ floor_of n r j
  pub children : t.children ≡ map (λ c. slice_index numbers c) (slice_index_or lists j [])
