-- What stands below tables, and nodes over them.
use Rattle.std.specs.Prelude.{◌≡◌, ◌≢◌, ℕ, zero, suc, ◌+◌, ◌<◌, ◌≤◌, List, [], ◌∷◌, length, slice_index, map, sum_by, All, AllPairs}
use Rattle.std.specs.List.{flat_map, AllByRecursion}
use Rattle.service_model.specs.declared.stage.SupplyArc.{SupplyArc}
use Rattle.service_model.specs.declared.plan.Plan.{Plan}
use Rattle.service_model.specs.declared.range.Range.{Range}
use Rattle.service_model.specs.declared.table.Kind.{Kind}
use Rattle.service_model.specs.declared.table.Kind.TheVariants.{Down, Up, Root}
use Rattle.service_model.specs.declared.table.Table.{Table}
use Rattle.service_model.specs.Net.{Net}
use Rattle.service_model.specs.Plans.{inbound_at, outbound_at}
use Rattle.service_model.specs.Ranges.{floor_of}
use Rattle.service_model.specs.Tables.{table_at, transit_in, value_at, IsShaped}
use Rattle.service_model.specs.LocalSums.{capped, Covers, Local, Tight}

-- the table and those below its children, at most so many steps deep, as a list with repeats
abbrev pub below_within : ℕ → List Table → ℕ → List ℕ
below_within zero tables i = []
below_within (suc steps) tables i = i ∷ flat_map (below_within steps tables) (table_at tables i).children

-- the table and those below its children; children are earlier tables, so i + 1 steps reach all
abbrev pub below : List Table → ℕ → List ℕ
below tables i = below_within (suc i) tables i

-- the tables at or below the roots
abbrev pub below_roots : List Table → List ℕ → List ℕ
below_roots tables roots = flat_map (below tables) roots

-- table k has its shape over the tables before it, and its values are at most the local sums
pub record IsSoundAt (n : Net) (tables : List Table) (k : ℕ) : Type 0 where
  pub there : k < length tables
  pub shaped : IsShaped n tables k (table_at tables k)
  pub lower : Local n tables (table_at tables k)

-- table k has its shape over the tables before it, and its values are the least local sums
pub record IsTightAt (n : Net) (tables : List Table) (k : ℕ) : Type 0 where
  pub there : k < length tables
  pub shaped : IsShaped n tables k (table_at tables k)
  pub tight : Tight n tables (table_at tables k)

-- table i and those below it are sound
abbrev pub AreSoundBelow : Net → List Table → ℕ → Type 0
AreSoundBelow n tables i = AllByRecursion (IsSoundAt n tables) (below tables i)

-- table i and those below it are tight
abbrev pub AreTightBelow : Net → List Table → ℕ → Type 0
AreTightBelow n tables i = AllByRecursion (IsTightAt n tables) (below tables i)

-- the plan's times are within the table
abbrev pub Holds : Net → Plan → Table → Type 0
Holds n p t = Covers n t (inbound_at p t.stage) (outbound_at p t.stage)

-- the table's value at the plan's times
abbrev pub plan_value : Plan → Table → ℕ
plan_value p t = value_at t (inbound_at p t.stage) (outbound_at p t.stage)

-- the plan meets the arc between a child of the kind, of stage c, and its parent, of stage j
abbrev pub MeetsChild : Kind → List SupplyArc → Plan → ℕ → ℕ → Type 0
MeetsChild Down arcs p c j = outbound_at p c + transit_in arcs c j ≤ inbound_at p j
MeetsChild Up arcs p c j = outbound_at p j + transit_in arcs j c ≤ inbound_at p c
MeetsChild Root arcs p c j = ⊥

-- what the plans of a node with these roots cost at least
abbrev pub bound_of : List Table → List ℕ → ℕ
bound_of tables roots = capped (sum_by (λ k. slice_index (table_at tables k).values 0) roots)

-- the table's interval holds the range's, and its floor is at most the range's
pub record Fits (n : Net) (r : Range) (t : Table) : Type 0 where
  pub least : t.least ≤ slice_index r.least t.stage
  pub most : slice_index r.most t.stage ≤ t.most
  pub floor : t.floor ≤ floor_of n r t.stage

-- no two of these tables are of one stage
abbrev pub IsOnce : List Table → List ℕ → Type 0
IsOnce tables ks = AllPairs (λ i j. i ≢ j) (map (λ k. (table_at tables k).stage) ks)

-- the roots are Root tables, and the tables at or below them fit the range and are of different stages
pub record IsNode (n : Net) (tables : List Table) (r : Range) (roots : List ℕ) : Type 0 where
  pub there : All (λ k. k < length tables) roots
  pub kinds : All (λ k. (table_at tables k).kind ≡ Root) roots
  pub fits : All (λ k. Fits n r (table_at tables k)) (below_roots tables roots)
  pub once : IsOnce tables (below_roots tables roots)
