-- The tables of all stages in a range over a forest.
use Rattle.std.specs.Prelude.{◌≡◌, ℕ, ◌+◌, ◌<◌, ◌≤◌, List, [], ◌++◌, length, slice_index, slice_index_or, map}
use Rattle.service_model.specs.declared.range.Range.{Range}
use Rattle.service_model.specs.declared.table.Table.{Table}
use Rattle.service_model.specs.Net.{Net}
use Rattle.service_model.specs.Ranges.{floor_of}
use Rattle.service_model.specs.Tables.{table_at}
use Rattle.service_model.specs.Nodes.{IsTightAt}
use Rattle.service_model.specs.Relaxed.{IsKindOf, IsTableOf}
use Rattle.tree_order.specs.declared.forest.Forest.{Forest}
use Rattle.tree_order.specs.Forest.{roots_of}
use Rattle.tree_tables.specs.declared.wanted.Wanted.{Wanted}
use Rattle.table_pool.specs.Pools.{IsPool}

-- the number of stage j names its table in the range, whose values are the least local sums
pub record HasTable (n : Net) (r : Range) (f : Forest) (tables : List Table) (numbers : List ℕ) (j : ℕ) : Type 0 where
  pub tight : IsTightAt n tables (slice_index numbers j)
  pub own : IsTableOf n r f.parent f.children numbers j (table_at tables (slice_index numbers j))

-- the number of each stage names its table
abbrev pub HaveTables : Net → Range → Forest → List Table → List ℕ → Type 0
HaveTables n r f tables numbers = (j : ℕ) → j < length n.stages → HasTable n r f tables numbers j

-- the numbers of the roots' tables
abbrev pub root_numbers : Forest → List ℕ → List ℕ
root_numbers f numbers = map (λ j. slice_index numbers j) (roots_of f)

-- the table of stage j in the range is wanted, over the tables at the numbers of its children
pub record IsWantedOf (n : Net) (r : Range) (f : Forest) (numbers : List ℕ) (j : ℕ) (w : Wanted) : Type 0 where
  pub stage : w.stage ≡ j
  pub kind : IsKindOf n.arcs f.parent j w.kind
  pub least : w.least ≡ slice_index r.least j
  pub most : w.most ≡ slice_index r.most j
  pub floor : w.floor ≡ floor_of n r j
  pub children : w.children.items ≡ map (λ c. slice_index numbers c) (slice_index_or f.children j [])

-- stage i stands before stage j in the order
abbrev pub StandsBefore : List ℕ → ℕ → ℕ → Type 0
StandsBefore order i j = (k : ℕ) × (m : ℕ) × (k < m) × (m < length order) × (slice_index order k ≡ i) × (slice_index order m ≡ j)

-- the tables from one number up to another stand in the order of their stages
abbrev pub StandInOrder : List ℕ → List Table → ℕ → ℕ → Type 0
StandInOrder order tables from to =
    (i k : ℕ) → from ≤ i → i < k → k < to → StandsBefore order (table_at tables i).stage (table_at tables k).stage

-- the pool has more tables at its end
abbrev pub IsLonger : List Table → List Table → Type 0
IsLonger old new = (more : List Table) × (new ≡ old ++ more)

-- the pool holds the tables of the first stages of the order, each table more is one of them, in their order, and was one step
pub record AreMade (n : Net) (r : Range) (f : Forest) (old new : List Table) (count count' : ℕ) (numbers : List ℕ) (first : ℕ) : Type 0 where
  pub pool : IsPool n new
  pub longer : IsLonger old new
  pub steps : count' + length old ≡ count + length new
  pub few : length new ≤ length old + first
  pub long : length numbers ≡ length n.stages
  pub made : (m : ℕ) → m < first → HasTable n r f new numbers (slice_index f.order m)
  pub fresh : (i : ℕ) → length old ≤ i → i < length new → (m : ℕ) × (m < first) × (slice_index numbers (slice_index f.order m) ≡ i)
  pub turns : StandInOrder f.order new (length old) (length new)

-- after a refusal: the pool holds what it held and perhaps more, each table more was one step, there was at most one step beside, and no more than stages
pub record IsGrown (n : Net) (old new : List Table) (count count' : ℕ) : Type 0 where
  pub pool : IsPool n new
  pub longer : IsLonger old new
  pub no_fewer : count + length new ≤ count' + length old
  pub few : count' + length old ≤ count + length new + 1
  pub room : count' ≤ count + length n.stages
