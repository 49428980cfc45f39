-- What times cost at a table and below it, and which tables bound what plans cost.
use Rattle.std.specs.Prelude.{◌≡◌, ℕ, ◌+◌, ◌-◌, ◌<◌, ◌≤◌, ◌⊎◌, min, List, [], ◌∷◌, length, slice_index, take, drop, sum_by}
use Rattle.service_model.specs.declared.limits.TheConstants.{INF}
use Rattle.service_model.specs.declared.table.Kind.{Kind}
use Rattle.service_model.specs.declared.table.Kind.TheVariants.{Down, Up, Root}
use Rattle.service_model.specs.declared.table.Table.{Table}
use Rattle.service_model.specs.Net.{Net, stage_at}
use Rattle.service_model.specs.Plans.{charge}
use Rattle.service_model.specs.Tables.{table_at, child_transit, place_of, value_at, IsShaped}

-- the number, or INF where that is less
abbrev pub capped : ℕ → ℕ
capped x = min x INF

-- the least number of a list, INF where all are more or there is none
abbrev pub least_of : List ℕ → ℕ
least_of [] = INF
least_of (x ∷ xs) = min x (least_of xs)

-- the least of a child's values at times that its parent's times allow, across a transit
abbrev pub child_least : Kind → ℕ → ℕ → ℕ → List ℕ → ℕ → ℕ → ℕ
child_least Down transit least floor values inbound outbound = least_of (take (inbound + 1 - (least + transit)) values)
child_least Up transit least floor values inbound outbound = least_of (drop (outbound + transit - floor) values)
child_least Root transit least floor values inbound outbound = INF

-- the least value of the child c at times that these times of its parent t allow
abbrev pub least_below : Net → Table → ℕ → ℕ → Table → ℕ
least_below n t inbound outbound c =
    child_least c.kind (child_transit c.kind n.arcs c.stage t.stage) c.least c.floor c.values inbound outbound

-- what these times cost at the table's stage and, at least, below it
abbrev pub local_sum : Net → List Table → Table → ℕ → ℕ → ℕ
local_sum n tables t inbound outbound =
    capped (charge (stage_at n t.stage).lead (stage_at n t.stage).cost inbound outbound
    + sum_by (λ c. least_below n t inbound outbound (table_at tables c)) t.children)

-- the times lie in the table's interval, and between its floor and the horizon
pub record Covers (n : Net) (t : Table) (inbound outbound : ℕ) : Type 0 where
  pub not_early : t.least ≤ outbound
  pub not_late : outbound ≤ t.most
  pub not_below : t.floor ≤ inbound
  pub not_above : inbound ≤ n.horizon

-- each value is at most every local sum that it covers
abbrev pub Local : Net → List Table → Table → Type 0
Local n tables t =
    (inbound outbound : ℕ) → Covers n t inbound outbound → value_at t inbound outbound ≤ local_sum n tables t inbound outbound

-- the number is the local sum of times whose value stands at the place
abbrev pub ComesFrom : Net → List Table → Table → ℕ → ℕ → Type 0
ComesFrom n tables t k value =
    (inbound : ℕ) × (outbound : ℕ) × Covers n t inbound outbound × (place_of t inbound outbound ≡ k)
    × (value ≡ local_sum n tables t inbound outbound)

-- each value is INF or a local sum that it covers
abbrev pub Reached : Net → List Table → Table → Type 0
Reached n tables t =
    (k : ℕ) → k < length t.values → (slice_index t.values k ≡ INF) ⊎ ComesFrom n tables t k (slice_index t.values k)

-- each value is the least local sum that it covers, INF where it covers none
pub record Tight (n : Net) (tables : List Table) (t : Table) : Type 0 where
  pub lower : Local n tables t
  pub reached : Reached n tables t

-- each table has its shape over the tables before it, and its values are at most the local sums
pub record Sound (n : Net) (tables : List Table) : Type 0 where
  pub shaped : (i : ℕ) → i < length tables → IsShaped n tables i (table_at tables i)
  pub lower : (i : ℕ) → i < length tables → Local n tables (table_at tables i)

-- each table has its shape over the tables before it, and its values are the least local sums
pub record AllTight (n : Net) (tables : List Table) : Type 0 where
  pub shaped : (i : ℕ) → i < length tables → IsShaped n tables i (table_at tables i)
  pub tight : (i : ℕ) → i < length tables → Tight n tables (table_at tables i)
