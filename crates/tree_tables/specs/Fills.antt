-- Tables that may be filled, and what filling gives.
use Rattle.std.specs.Prelude.{◌≡◌, ℕ, ◌+◌, ◌<◌, ◌≤◌, List, length, All}
use Rattle.service_model.specs.declared.table.Table.{Table}
use Rattle.service_model.specs.Net.{Net}
use Rattle.service_model.specs.Tables.{table_at, IsChild, IsSized}
use Rattle.service_model.specs.LocalSums.{Tight}
use Rattle.tree_tables.specs.declared.wanted.Wanted.{Wanted}

-- these are numbers of tables that are of the network and may be children of a table of the stage
pub record AreChildren (n : Net) (tables : List Table) (stage : ℕ) (children : List ℕ) : Type 0 where
  pub there : All (λ c. c < length tables) children
  pub sized : All (λ c. IsSized n (table_at tables c)) children
  pub fit : All (λ c. IsChild (table_at tables c).kind n.arcs (table_at tables c).stage stage) children

-- a table of this stage, interval, floor and children may be filled over the tables
pub record IsWanted (n : Net) (tables : List Table) (w : Wanted) : Type 0 where
  pub stage : w.stage < length n.stages
  pub interval : w.least ≤ w.most
  pub within : w.most ≤ n.horizon
  pub floor : w.floor ≤ n.horizon + 1
  pub children : AreChildren n tables w.stage w.children.items

-- the table has the stage, kind, interval, floor and children that are wanted
pub record IsAsWanted (w : Wanted) (t : Table) : Type 0 where
  pub stage : t.stage ≡ w.stage
  pub kind : t.kind ≡ w.kind
  pub least : t.least ≡ w.least
  pub most : t.most ≡ w.most
  pub floor : t.floor ≡ w.floor
  pub children : t.children ≡ w.children.items

-- the table that is wanted, with these values
abbrev pub table_of : Wanted → List ℕ → Table
table_of w values = record { stage = w.stage; kind = w.kind; least = w.least; most = w.most; floor = w.floor; children = w.children.items; values = values }

-- the table is what filling over these tables gives: its values are the least local sums
pub record IsFill (n : Net) (tables : List Table) (t : Table) : Type 0 where
  pub sized : IsSized n t
  pub children : AreChildren n tables t.stage t.children
  pub tight : Tight n tables t
