-- Plans that are within tables and meet the arcs between them.
use Rattle.std.specs.Prelude.{◌≡◌, ◌≢◌, ℕ, zero, suc, ◌<◌, ◌≤◌, List, length, slice_index, map, sum_by, All, Contains}
use Rattle.std.specs.List.{AllByRecursion}
use Rattle.service_model.specs.declared.limits.TheConstants.{INF}
use Rattle.service_model.specs.declared.plan.Plan.{Plan}
use Rattle.service_model.specs.declared.table.Kind.TheVariants.{Root}
use Rattle.service_model.specs.declared.table.Table.{Table}
use Rattle.service_model.specs.Net.{Net}
use Rattle.service_model.specs.Plans.{HasTimes, inbound_at, outbound_at, stage_cost, cost_of}
use Rattle.service_model.specs.Tables.{table_at, place_of}
use Rattle.service_model.specs.Nodes.{below, below_roots, Holds, MeetsChild, IsOnce}

-- the plan is within the table and those below it, and meets the arcs between them, so many steps deep
abbrev pub TracedWithin : ℕ → Net → List Table → Plan → ℕ → Type 0
TracedWithin zero n tables p i = Unit {0}
TracedWithin (suc steps) n tables p i =
    Holds n p (table_at tables i)
    × AllByRecursion
    (λ c. MeetsChild (table_at tables c).kind n.arcs p (table_at tables c).stage (table_at tables i).stage × TracedWithin steps n tables p c)
    (table_at tables i).children

-- the plan is within the table and those below it, and meets the arcs between them
abbrev pub IsTraced : Net → List Table → Plan → ℕ → Type 0
IsTraced n tables p i = TracedWithin (suc i) n tables p i

-- the plan meets the arcs to these children of a table of stage j, and is traced from each of them on
abbrev pub AreTraced : Net → List Table → Plan → ℕ → List ℕ → Type 0
AreTraced n tables p j cs =
    AllByRecursion (λ c. MeetsChild (table_at tables c).kind n.arcs p (table_at tables c).stage j × IsTraced n tables p c) cs

-- the plan is within the tables at or below the roots, and meets the arcs between them
abbrev pub IsTracedNode : Net → List Table → Plan → List ℕ → Type 0
IsTracedNode n tables p roots = AllByRecursion (IsTraced n tables p) roots

-- what the plan costs at the stages of these tables
abbrev pub cost_at : Net → Plan → List Table → List ℕ → ℕ
cost_at n p tables ks = sum_by (λ k. stage_cost n p (table_at tables k).stage) ks

-- no table of these has the stage
abbrev pub IsAbsent : List Table → ℕ → List ℕ → Type 0
IsAbsent tables j ks = AllByRecursion (λ k. (table_at tables k).stage ≢ j) ks

-- the plan q has p's times at stage j
abbrev pub SameAt : Plan → Plan → ℕ → Type 0
SameAt p q j = (inbound_at q j ≡ inbound_at p j) × (outbound_at q j ≡ outbound_at p j)

-- the plan q is p but at the stages of these tables
abbrev pub SameOutside : List Table → List ℕ → Plan → Plan → Type 0
SameOutside tables ks p q = (j : ℕ) → IsAbsent tables j ks → SameAt p q j

-- the plan q is p but at and below table i, where it is traced, stands at the value at x and costs just that
pub record IsTraceOf (n : Net) (tables : List Table) (i x : ℕ) (p q : Plan) : Type 0 where
  pub times : HasTimes n q
  pub same : SameOutside tables (below tables i) p q
  pub traced : IsTraced n tables q i
  pub stands : place_of (table_at tables i) (inbound_at q (table_at tables i).stage) (outbound_at q (table_at tables i).stage) ≡ x
  pub cost : cost_at n q tables (below tables i) ≡ slice_index (table_at tables i).values x

-- the roots are Root tables, and at or below them is just one table of each stage
pub record IsWhole (n : Net) (tables : List Table) (roots : List ℕ) : Type 0 where
  pub kinds : All (λ k. (table_at tables k).kind ≡ Root) roots
  pub once : IsOnce tables (below_roots tables roots)
  pub every : (j : ℕ) → j < length n.stages → Contains (map (λ k. (table_at tables k).stage) (below_roots tables roots)) j

-- the bound is the least that a plan within the tables costs, INF where there is no such plan that costs less
pub record IsLeastTraced (n : Net) (tables : List Table) (roots : List ℕ) (bound : ℕ) : Type 0 where
  pub lower : (p : Plan) → IsTracedNode n tables p roots → bound ≤ cost_of n p
  pub reached : bound < INF → (p : Plan) × HasTimes n p × IsTracedNode n tables p roots × (cost_of n p ≡ bound)
