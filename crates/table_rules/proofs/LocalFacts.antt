-- The columns of a table decide whether its values are at most the local sums.
use Rattle.std.proofs.Common.{ℕ, ◌≡◌, ◌+◌, ◌<◌, ◌≤◌, List, [], ◌∷◌, length, get_or, refl, arith}
use Rattle.std.specs.Prelude.{All, ◌↔◌, sum_by}
use Rattle.std.specs.List.{AllByRecursion}
use Rattle.std.proofs.lemmas.List.Sums.{sum_by-cons}
use Rattle.std.proofs.lemmas.List.Elements.{All-from_get_or, recursion_from_All}
use Rattle.service_model.specs.declared.limits.TheConstants.{INF}
use Rattle.service_model.specs.declared.table.Kind.{Kind}
use Rattle.service_model.specs.declared.table.Kind.TheVariants.{Down, Up, Root}
use Rattle.service_model.specs.declared.table.Table.{Table}
use Rattle.service_model.specs.Net.{Net, stage_at}
use Rattle.service_model.specs.Plans.{charge}
use Rattle.service_model.specs.Tables.{IsChild, child_transit, table_at}
use Rattle.service_model.specs.LocalSums.{Covers, Local, capped, child_least, least_below, local_sum}
use Rattle.table_rules.specs.Sums.{AreDownSums, AreUpSums, ColumnHolds, down_part, down_sum, up_part, up_sum}

-- capped sums are at most INF
pub capped_small : (f : ℕ → ℕ) (sums : List ℕ) → ((k : ℕ) → k < length sums → get_or sums k 0 ≡ capped (f k)) → All (λ x. x ≤ INF) sums
capped_small f sums are = All-from_get_or (λ x. x ≤ INF) sums 0 (λ k within. omega (arith, are k within))

child_in_parts : (kind : Kind) (n : Net) (c : Table) (j inbound outbound : ℕ) → IsChild kind n.arcs c.stage j
    → child_least kind (child_transit kind n.arcs c.stage j) c.least c.floor c.values inbound outbound
    ≡ down_part kind n.arcs c j inbound + up_part kind n.arcs c j outbound
child_in_parts Down n c j inbound outbound child = omega arith
child_in_parts Up n c j inbound outbound child = omega arith
child_in_parts Root n c j inbound outbound child = absurd child

children_in_parts : (n : Net) (tables : List Table) (t : Table) (inbound outbound : ℕ) (children : List ℕ)
    → AllByRecursion (λ c. IsChild (table_at tables c).kind n.arcs (table_at tables c).stage t.stage) children
    → sum_by (λ c. least_below n t inbound outbound (table_at tables c)) children
    ≡ down_sum n.arcs tables t.stage children inbound + up_sum n.arcs tables t.stage children outbound
children_in_parts n tables t inbound outbound [] fit = refl
children_in_parts n tables t inbound outbound (c ∷ children) fit =
    let rest = children_in_parts n tables t inbound outbound children fit.1 in
    let first = child_in_parts (table_at tables c).kind n (table_at tables c) t.stage inbound outbound fit.0 in
    let whole = sum_by-cons (λ m. least_below n t inbound outbound (table_at tables m)) c children in
    let down = sum_by-cons (λ m. down_part (table_at tables m).kind n.arcs (table_at tables m) t.stage inbound) c children in
    let up = sum_by-cons (λ m. up_part (table_at tables m).kind n.arcs (table_at tables m) t.stage outbound) c children in
    omega (arith, rest, first, whole, down, up)

-- the local sum by the sums over the children
local_in_parts : (n : Net) (tables : List Table) (t : Table) (down up : List ℕ) (inbound outbound : ℕ)
    → All (λ c. IsChild (table_at tables c).kind n.arcs (table_at tables c).stage t.stage) t.children
    → AreDownSums n.arcs tables t.stage t.children down → AreUpSums n.arcs tables t.stage t.children up
    → inbound < length down → outbound < length up
    → local_sum n tables t inbound outbound
    ≡ capped (charge (stage_at n t.stage).lead (stage_at n t.stage).cost inbound outbound + get_or down inbound 0 + get_or up outbound 0)
local_in_parts n tables t down up inbound outbound fit downs ups low low' =
    let parts =
    children_in_parts n tables t inbound outbound t.children
    (recursion_from_All (λ c. IsChild (table_at tables c).kind n.arcs (table_at tables c).stage t.stage) t.children fit) in
    omega (arith, parts, downs inbound low, ups outbound low')

pub local_by_columns : (n : Net) (tables : List Table) (t : Table) (down up : List ℕ)
    → All (λ c. IsChild (table_at tables c).kind n.arcs (table_at tables c).stage t.stage) t.children
    → AreDownSums n.arcs tables t.stage t.children down → AreUpSums n.arcs tables t.stage t.children up
    → length down ≡ n.horizon + 1 → length up ≡ n.horizon + 1 → t.most ≤ n.horizon
    → ((outbound : ℕ) → t.least ≤ outbound → outbound < t.most + 1 → ColumnHolds (stage_at n t.stage) down (get_or up outbound 0) t outbound)
    ↔ Local n tables t
local_by_columns n tables t down up fit downs ups long long' within = (
  λ columns inbound outbound covers.
      let low : inbound < length down = omega (arith, long, covers.not_above) in
      let low' : outbound < length up = omega (arith, long', covers.not_late) in
      let same = local_in_parts n tables t down up inbound outbound fit downs ups low low' in
      omega (arith, columns outbound covers.not_early (omega (arith, covers.not_late)) inbound covers.not_below low, same),
  λ local outbound early late inbound above below.
      let low' : outbound < length up = omega (arith, long', late) in
      let same = local_in_parts n tables t down up inbound outbound fit downs ups below low' in
      let covers : Covers n t inbound outbound =
      record { not_early = early; not_late = omega arith; not_below = above; not_above = omega (arith, long) } in
      omega (arith, local inbound outbound covers, same),
)
