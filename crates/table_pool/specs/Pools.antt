-- Lists of filled tables in which no table stands twice.
use Rattle.std.specs.Prelude.{◌≡◌, ℕ, ◌+◌, ◌<◌, ◌≤◌, ◌⊎◌, List, [], ◌∷◌, ◌++◌, length}
use Rattle.service_model.specs.declared.table.Table.{Table}
use Rattle.service_model.specs.Net.{Net}
use Rattle.service_model.specs.Tables.{table_at}
use Rattle.service_model.specs.LocalSums.{AllTight}
use Rattle.tree_tables.specs.declared.wanted.Wanted.{Wanted}
use Rattle.tree_tables.specs.Fills.{IsAsWanted}

-- the two tables have all but their values alike
pub record IsAlike (s t : Table) : Type 0 where
  pub stage : s.stage ≡ t.stage
  pub kind : s.kind ≡ t.kind
  pub least : s.least ≡ t.least
  pub most : s.most ≡ t.most
  pub floor : s.floor ≡ t.floor
  pub children : s.children ≡ t.children

-- no two tables are alike
abbrev pub IsSingle : List Table → Type 0
IsSingle tables =
    (i k : ℕ) → i < length tables → k < length tables → IsAlike (table_at tables i) (table_at tables k) → i ≡ k

-- the tables of a pool that serves the network: children stand first, values are the least local sums, and none stands twice
pub record IsPool (n : Net) (tables : List Table) : Type 0 where
  pub tight : AllTight n tables
  pub single : IsSingle tables

-- the wanted table is among these
abbrev pub HasWanted : List Table → Wanted → Type 0
HasWanted tables w = (i : ℕ) × (i < length tables) × IsAsWanted w (table_at tables i)

-- the pool held the wanted table: nothing changes, and no step is counted
pub record IsHeld (old new : List Table) (w : Wanted) (count count' : ℕ) : Type 0 where
  pub held : HasWanted old w
  pub same : new ≡ old
  pub no_step : count' ≡ count

-- the pool did not hold the wanted table: it comes to the end, and one step is counted
pub record IsAdded (old new : List Table) (w : Wanted) (count count' id : ℕ) : Type 0 where
  pub absent : ¬ HasWanted old w
  pub table : Table
  pub more : new ≡ old ++ table ∷ []
  pub step : count' ≡ count + 1
  pub last : id ≡ length old

-- the wanted table has this number
pub record IsFoundOrFilled (n : Net) (old new : List Table) (w : Wanted) (count count' id : ℕ) : Type 0 where
  pub pool : IsPool n new
  pub there : id < length new
  pub wanted : IsAsWanted w (table_at new id)
  pub change : IsHeld old new w count count' ⊎ IsAdded old new w count count' id

-- nothing changed, and at most one step was counted
pub record IsUnchanged (old new : List Table) (count count' : ℕ) : Type 0 where
  pub same : new ≡ old
  pub no_fewer : count ≤ count'
  pub few : count' ≤ count + 1
