-- Tables over a network: their kinds, places and shapes.
use Rattle.std.specs.Prelude.{◌≡◌, ℕ, ◌+◌, ◌-◌, ◌<◌, ◌≤◌, ◌==◌, ◌&&◌, List, [], ◌∷◌, length, slice_index, slice_index_or, All, Any, if◌then◌else◌}
use Rattle.service_model.specs.declared.stage.SupplyArc.{SupplyArc}
use Rattle.service_model.specs.declared.table.Kind.{Kind}
use Rattle.service_model.specs.declared.table.Kind.TheVariants.{Down, Up, Root}
use Rattle.service_model.specs.declared.table.Table.{Table}
use Rattle.service_model.specs.Net.{Net}

-- what stands for a table that there is not
abbrev pub no_table : Table
no_table = record { stage = 0; kind = Root; least = 0; most = 0; floor = 0; children = []; values = [] }

-- table i of a list
abbrev pub table_at : List Table → ℕ → Table
table_at tables i = slice_index_or tables i no_table

-- an arc leads from stage i to stage j, told as `any` over the arcs finds it
abbrev pub Supplies : List SupplyArc → ℕ → ℕ → Type 0
Supplies arcs i j = Any (λ a. (a.supplier ≡ i) × (a.customer ≡ j)) arcs

-- the transit of the first arc from stage i to stage j, 0 where there is none
abbrev pub transit_in : List SupplyArc → ℕ → ℕ → ℕ
transit_in [] i j = 0
transit_in (a ∷ arcs) i j = if (a.supplier == i) && (a.customer == j) then a.transit else transit_in arcs i j

-- how many values a table of the kind has, under a horizon, an interval and a floor
abbrev pub width : Kind → ℕ → ℕ → ℕ → ℕ → ℕ
width Down horizon least most floor = most + 1 - least
width Up horizon least most floor = horizon + 1 - floor
width Root horizon least most floor = 1

-- which value of a table of the kind stands for two times, under an interval's start and a floor
abbrev pub place : Kind → ℕ → ℕ → ℕ → ℕ → ℕ
place Down least floor inbound outbound = outbound - least
place Up least floor inbound outbound = inbound - floor
place Root least floor inbound outbound = 0

-- the transit between a child of the kind, of stage c, and its parent, of stage j
abbrev pub child_transit : Kind → List SupplyArc → ℕ → ℕ → ℕ
child_transit Down arcs c j = transit_in arcs c j
child_transit Up arcs c j = transit_in arcs j c
child_transit Root arcs c j = 0

-- which of the table's values stands for two times
abbrev pub place_of : Table → ℕ → ℕ → ℕ
place_of t inbound outbound = place t.kind t.least t.floor inbound outbound

-- the table's value at two times
abbrev pub value_at : Table → ℕ → ℕ → ℕ
value_at t inbound outbound = slice_index t.values (place_of t inbound outbound)

-- a table of the kind and of stage c may be a child of one of stage j
abbrev pub IsChild : Kind → List SupplyArc → ℕ → ℕ → Type 0
IsChild Down arcs c j = Supplies arcs c j
IsChild Up arcs c j = Supplies arcs j c
IsChild Root arcs c j = ⊥

-- the table's stage, interval, floor and number of values are of the network
pub record IsSized (n : Net) (t : Table) : Type 0 where
  pub stage : t.stage < length n.stages
  pub interval : t.least ≤ t.most
  pub within : t.most ≤ n.horizon
  pub floor : t.floor ≤ n.horizon + 1
  pub values : length t.values ≡ width t.kind n.horizon t.least t.most t.floor

-- the table is sized, and its children are among the first so many tables and may be its children
pub record IsShaped (n : Net) (tables : List Table) (count : ℕ) (t : Table) : Type 0 where
  pub sized : IsSized n t
  pub earlier : All (λ c. c < count) t.children
  pub children : All (λ c. IsChild (table_at tables c).kind n.arcs (table_at tables c).stage t.stage) t.children
