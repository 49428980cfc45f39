-- Local sums in two parts: what Down children cost at least hangs on the inbound time alone, what Up children cost on the
-- outbound time alone.
use Rattle.std.specs.Prelude.{◌≡◌, ℕ, ◌+◌, ◌-◌, ◌<◌, ◌≤◌, ◌⊎◌, List, length, nat_le, slice_index, take, drop, sum_by, EachIndex, if◌then◌else◌}
use Rattle.service_model.specs.declared.limits.TheConstants.{INF}
use Rattle.service_model.specs.declared.stage.Stage.{Stage}
use Rattle.service_model.specs.declared.stage.SupplyArc.{SupplyArc}
use Rattle.service_model.specs.declared.table.Kind.{Kind}
use Rattle.service_model.specs.declared.table.Kind.TheVariants.{Down, Up, Root}
use Rattle.service_model.specs.declared.table.Table.{Table}
use Rattle.service_model.specs.Plans.{charge, entry_of}
use Rattle.service_model.specs.Tables.{table_at, transit_in, value_at}
use Rattle.service_model.specs.LocalSums.{capped, least_of}

-- the entry of a list at a time, where entry 0 stands at the start; INF where there is none
abbrev pub entry_from : List ℕ → ℕ → ℕ → ℕ
entry_from xs start time = if nat_le start time then entry_of xs (time - start) else INF

-- what a child costs at least at an inbound time of its parent, of stage j, if that hangs on it
abbrev pub down_part : Kind → List SupplyArc → Table → ℕ → ℕ → ℕ
down_part Down arcs c j inbound = least_of (take (inbound + 1 - (c.least + transit_in arcs c.stage j)) c.values)
down_part Up arcs c j inbound = 0
down_part Root arcs c j inbound = 0

-- what a child costs at least at an outbound time of its parent, of stage j, if that hangs on it
abbrev pub up_part : Kind → List SupplyArc → Table → ℕ → ℕ → ℕ
up_part Down arcs c j outbound = 0
up_part Up arcs c j outbound = least_of (drop (outbound + transit_in arcs j c.stage - c.floor) c.values)
up_part Root arcs c j outbound = 0

-- what the children cost at least at an inbound time of their parent, stage j, as far as it hangs on that
abbrev pub down_sum : List SupplyArc → List Table → ℕ → List ℕ → ℕ → ℕ
down_sum arcs tables j children inbound =
    sum_by (λ c. down_part (table_at tables c).kind arcs (table_at tables c) j inbound) children

-- what the children cost at least at an outbound time of their parent, stage j, as far as it hangs on that
abbrev pub up_sum : List SupplyArc → List Table → ℕ → List ℕ → ℕ → ℕ
up_sum arcs tables j children outbound =
    sum_by (λ c. up_part (table_at tables c).kind arcs (table_at tables c) j outbound) children

-- these are the capped sums over the children, at each inbound time
abbrev pub AreDownSums : List SupplyArc → List Table → ℕ → List ℕ → List ℕ → Type 0
AreDownSums arcs tables j children sums = EachIndex sums (λ i. slice_index sums i ≡ capped (down_sum arcs tables j children i))

-- these are the capped sums over the children, at each outbound time
abbrev pub AreUpSums : List SupplyArc → List Table → ℕ → List ℕ → List ℕ → Type 0
AreUpSums arcs tables j children sums = EachIndex sums (λ o. slice_index sums o ≡ capped (up_sum arcs tables j children o))

-- least is the least sum of an entry of each list among the first so many, INF where none is less
pub record IsLeastSum (xs ys : List ℕ) (count least : ℕ) : Type 0 where
  pub lower : (k : ℕ) → k < count → least ≤ slice_index xs k + slice_index ys k
  pub capped : least ≤ INF
  pub reached : (least ≡ INF) ⊎ ((k : ℕ) × (k < count) × (least ≡ slice_index xs k + slice_index ys k))

-- the table's values are at most the sums of what its stage and its children cost at an outbound time
abbrev pub ColumnHolds : Stage → List ℕ → ℕ → Table → ℕ → Type 0
ColumnHolds s down up t outbound =
    (inbound : ℕ) → t.floor ≤ inbound → inbound < length down
    → value_at t inbound outbound ≤ capped (charge s.lead s.cost inbound outbound + slice_index down inbound + up)

-- the table of the kind has values for the outbound time and so many inbound times from the first on
abbrev pub FitsPart : Kind → Table → ℕ → ℕ → ℕ → Type 0
FitsPart Down t outbound first count = (t.least ≤ outbound) × (outbound < length t.values + t.least)
FitsPart Up t outbound first count = (t.floor ≤ first) × (first + count ≤ length t.values + t.floor)
FitsPart Root t outbound first count = 0 < length t.values
