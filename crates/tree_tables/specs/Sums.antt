-- Local sums by parts: what Down children cost at least hangs on the inbound time alone, what Up children cost on the outbound time.
use Rattle.std.specs.Prelude.{◌≡◌, ℕ, ◌+◌, ◌-◌, ◌<◌, ◌≤◌, ◌^◌, List, length, slice_index, take, drop, sum_by, All, EachIndex}
use Rattle.service_model.specs.declared.limits.TheConstants.{INF}
use Rattle.service_model.specs.declared.stage.SupplyArc.{SupplyArc}
use Rattle.service_model.specs.declared.table.Kind.{Kind}
use Rattle.service_model.specs.declared.table.Kind.TheVariants.{Down, Up, Root}
use Rattle.service_model.specs.declared.table.Table.{Table}
use Rattle.service_model.specs.Plans.{charge}
use Rattle.service_model.specs.Tables.{table_at, transit_in}
use Rattle.service_model.specs.LocalSums.{capped, least_of}
use Rattle.tree_tables.specs.Leasts.{IsLeast, IsLeastPair}

-- what a child costs at least at an inbound time of its parent, of stage j, if that hangs on it
abbrev pub down_part : Kind → List SupplyArc → Table → ℕ → ℕ → ℕ
down_part Down arcs c j inbound = least_of (take (inbound + 1 - (c.least + transit_in arcs c.stage j)) c.values)
down_part Up arcs c j inbound = 0
down_part Root arcs c j inbound = 0

-- what a child costs at least at an outbound time of its parent, of stage j, if that hangs on it
abbrev pub up_part : Kind → List SupplyArc → Table → ℕ → ℕ → ℕ
up_part Down arcs c j outbound = 0
up_part Up arcs c j outbound = least_of (drop (outbound + transit_in arcs j c.stage - c.floor) c.values)
up_part Root arcs c j outbound = 0

-- what the children cost at least at an inbound time of their parent, stage j, as far as it hangs on that
abbrev pub down_sum : List SupplyArc → List Table → ℕ → List ℕ → ℕ → ℕ
down_sum arcs tables j children inbound =
    sum_by (λ c. down_part (table_at tables c).kind arcs (table_at tables c) j inbound) children

-- what the children cost at least at an outbound time of their parent, stage j, as far as it hangs on that
abbrev pub up_sum : List SupplyArc → List Table → ℕ → List ℕ → ℕ → ℕ
up_sum arcs tables j children outbound =
    sum_by (λ c. up_part (table_at tables c).kind arcs (table_at tables c) j outbound) children

-- these are the capped sums over the children, at each inbound time
abbrev pub AreDownSums : List SupplyArc → List Table → ℕ → List ℕ → List ℕ → Type 0
AreDownSums arcs tables j children sums = EachIndex sums (λ i. slice_index sums i ≡ capped (down_sum arcs tables j children i))

-- these are the capped sums over the children, at each outbound time
abbrev pub AreUpSums : List SupplyArc → List Table → ℕ → List ℕ → List ℕ → Type 0
AreUpSums arcs tables j children sums = EachIndex sums (λ o. slice_index sums o ≡ capped (up_sum arcs tables j children o))

-- a stage's lead time and costs, and the sums over its children at each inbound and at each outbound time
pub record Parts : Type 0 where
  pub lead : ℕ
  pub cost : List ℕ
  pub down : List ℕ
  pub up : List ℕ

-- no number of these is above INF, and there are as many inbound as outbound times
pub record AreParts (p : Parts) : Type 0 where
  pub cost : All (λ x. x ≤ INF) p.cost
  pub down : All (λ x. x ≤ INF) p.down
  pub up : All (λ x. x ≤ INF) p.up
  pub same : length p.up ≡ length p.down
  pub short : length p.down < 2 ^ 16

-- the local sum at two times
abbrev pub local_at : Parts → ℕ → ℕ → ℕ
local_at p inbound outbound = capped (charge p.lead p.cost inbound outbound + slice_index p.down inbound + slice_index p.up outbound)

-- these are the least local sums over what the kind leaves free, of an interval and a floor
abbrev pub AreLeast : Kind → Parts → ℕ → ℕ → ℕ → List ℕ → Type 0
AreLeast Down p least most floor values =
    (length values ≡ most + 1 - least)
    × ((o : ℕ) → least ≤ o → o < most + 1 → IsLeast (λ i. local_at p i o) floor (length p.down) (slice_index values (o - least)))
AreLeast Up p least most floor values =
    (length values ≡ length p.down - floor)
    × ((i : ℕ) → floor ≤ i → i < length p.down → IsLeast (λ o. local_at p i o) least (most + 1) (slice_index values (i - floor)))
AreLeast Root p least most floor values =
    (length values ≡ 1) × IsLeastPair (local_at p) floor (length p.down) least (most + 1) (slice_index values 0)
