-- Least local sums over the parts of a stage are the values of a tight table.
use Rattle.std.proofs.Common.{ℕ, ◌≡◌, ◌+◌, ◌-◌, ◌<◌, ◌≤◌, List, [], ◌∷◌, length, get_or, refl, sym, ap, ◌∙◌, inl, inr, ⊎_elim, arith}
use Rattle.std.specs.Prelude.{◌⊎◌, All, Result, Ok, Err, IfOk, sum_by}
use Rattle.std.specs.List.{AllByRecursion}
use Rattle.std.proofs.lemmas.List.Sums.{sum_by-cons}
use Rattle.std.proofs.lemmas.List.Elements.{recursion_from_All}
use Rattle.service_model.specs.declared.limits.TheConstants.{INF}
use Rattle.service_model.specs.declared.table.Kind.{Kind}
use Rattle.service_model.specs.declared.table.Kind.TheVariants.{Down, Up, Root}
use Rattle.service_model.specs.declared.table.Table.{Table}
use Rattle.service_model.specs.Net.{Net, stage_at}
use Rattle.service_model.specs.Plans.{charge}
use Rattle.service_model.specs.Tables.{table_at, child_transit, place, IsChild, width}
use Rattle.service_model.specs.LocalSums.{child_least, least_below, local_sum, Covers, Tight}
use Rattle.tree_tables.specs.declared.wanted.Wanted.{Wanted}
use Rattle.tree_tables.specs.Fills.{IsWanted, IsFill, table_of}
use Rattle.tree_tables.specs.Sums.{down_part, up_part, down_sum, up_sum, AreDownSums, AreUpSums, Parts, local_at, AreLeast}

part_is : (kind : Kind) (n : Net) (c : Table) (j i o : ℕ) → IsChild kind n.arcs c.stage j
    → child_least kind (child_transit kind n.arcs c.stage j) c.least c.floor c.values i o ≡ down_part kind n.arcs c j i + up_part kind n.arcs c j o
part_is Down n c j i o child = omega arith
part_is Up n c j i o child = omega arith
part_is Root n c j i o child = absurd child

parts_are : (n : Net) (tables : List Table) (t : Table) (i o : ℕ) (cs : List ℕ)
    → AllByRecursion (λ c. IsChild (table_at tables c).kind n.arcs (table_at tables c).stage t.stage) cs
    → sum_by (λ c. least_below n t i o (table_at tables c)) cs ≡ down_sum n.arcs tables t.stage cs i + up_sum n.arcs tables t.stage cs o
parts_are n tables t i o [] fit = refl
parts_are n tables t i o (c ∷ cs) fit =
    let rest = parts_are n tables t i o cs fit.1 in
    let first = part_is (table_at tables c).kind n (table_at tables c) t.stage i o fit.0 in
    let whole = sum_by-cons (λ m. least_below n t i o (table_at tables m)) c cs in
    let down = sum_by-cons (λ m. down_part (table_at tables m).kind n.arcs (table_at tables m) t.stage i) c cs in
    let up = sum_by-cons (λ m. up_part (table_at tables m).kind n.arcs (table_at tables m) t.stage o) c cs in
    omega (arith, rest, first, whole, down, up)

-- these are the stage's lead time and costs, and the sums over the table's children
pub record ArePartsOf (n : Net) (tables : List Table) (t : Table) (p : Parts) : Type 0 where
  pub lead : p.lead ≡ (stage_at n t.stage).lead
  pub cost : p.cost ≡ (stage_at n t.stage).cost
  pub down : AreDownSums n.arcs tables t.stage t.children p.down
  pub up : AreUpSums n.arcs tables t.stage t.children p.up
  pub fit : All (λ c. IsChild (table_at tables c).kind n.arcs (table_at tables c).stage t.stage) t.children

-- the local sum by parts is the local sum
pub local_by_parts : (n : Net) (tables : List Table) (t : Table) (p : Parts) (i o : ℕ) → ArePartsOf n tables t p → i < length p.down → o < length p.up
    → local_sum n tables t i o ≡ local_at p i o
local_by_parts n tables t p i o of low low' =
    let parts = parts_are n tables t i o t.children (recursion_from_All (λ c. IsChild (table_at tables c).kind n.arcs (table_at tables c).stage t.stage) t.children of.fit) in
    let lead = ap (λ m. charge m p.cost i o) of.lead in
    let cost = ap (λ xs. charge (stage_at n t.stage).lead xs i o) of.cost in
    let down = of.down i low in
    let up = of.up o low' in
    omega (arith, parts, lead, cost, down, up)

-- no value is above a local sum that it covers
lower_by_kind : (kind : Kind) (n : Net) (t : Table) (p : Parts) → length p.down ≡ n.horizon + 1 → AreLeast kind p t.least t.most t.floor t.values
    → (i o : ℕ) → Covers n t i o → get_or t.values (place kind t.least t.floor i o) 0 ≤ local_at p i o
lower_by_kind Down n t p long values i o covers =
    (values.1 o covers.not_early (omega (arith, covers.not_late))).lower i covers.not_below (omega (arith, long, covers.not_above))
lower_by_kind Up n t p long values i o covers =
    (values.1 i covers.not_below (omega (arith, long, covers.not_above))).lower o covers.not_early (omega (arith, covers.not_late))
lower_by_kind Root n t p long values i o covers =
    values.1.lower i o covers.not_below (omega (arith, long, covers.not_above)) covers.not_early (omega (arith, covers.not_late))

-- the value at k is INF or a local sum that it covers
abbrev IsReachedAt : Kind → Net → Table → Parts → ℕ → Type 0
IsReachedAt kind n t p k =
    (get_or t.values k 0 ≡ INF)
    ⊎ ((i : ℕ) × (o : ℕ) × Covers n t i o × (place kind t.least t.floor i o ≡ k) × (get_or t.values k 0 ≡ local_at p i o))

reached_by_kind : (kind : Kind) (n : Net) (t : Table) (p : Parts) → length p.down ≡ n.horizon + 1 → AreLeast kind p t.least t.most t.floor t.values
    → (k : ℕ) → k < length t.values → IsReachedAt kind n t p k
reached_by_kind Down n t p long values k within =
    let here : t.least + k < t.most + 1 = omega (arith, values.0) in
    let back : t.least + k - t.least ≡ k = omega arith in
    let known = values.1 (t.least + k) (omega arith) here in
    let value : get_or t.values (t.least + k - t.least) 0 ≡ get_or t.values k 0 = ap (λ m. get_or t.values m 0) back in
    ⊎_elim
    (λ top. inl (sym value ∙ top))
    (λ at. inr (
      at.0,
      t.least + k,
      record { not_early = omega arith; not_late = omega (arith, here); not_below = at.1; not_above = omega (arith, long, at.2) },
      back,
      sym value ∙ at.3,
    ))
    known.reached
reached_by_kind Up n t p long values k within =
    let here : t.floor + k < length p.down = omega (arith, values.0) in
    let back : t.floor + k - t.floor ≡ k = omega arith in
    let known = values.1 (t.floor + k) (omega arith) here in
    let value : get_or t.values (t.floor + k - t.floor) 0 ≡ get_or t.values k 0 = ap (λ m. get_or t.values m 0) back in
    ⊎_elim
    (λ top. inl (sym value ∙ top))
    (λ at. inr (
      t.floor + k,
      at.0,
      record { not_early = at.1; not_late = omega (arith, at.2); not_below = omega arith; not_above = omega (arith, long, here) },
      back,
      sym value ∙ at.3,
    ))
    known.reached
reached_by_kind Root n t p long values k within =
    let first : 0 ≡ k = omega (arith, values.0) in
    let value : get_or t.values 0 0 ≡ get_or t.values k 0 = ap (λ m. get_or t.values m 0) first in
    ⊎_elim
    (λ top. inl (sym value ∙ top))
    (λ at. inr (
      at.0,
      at.1,
      record { not_early = at.4; not_late = omega (arith, at.5); not_below = at.2; not_above = omega (arith, long, at.3) },
      first,
      sym value ∙ at.6,
    ))
    values.1.reached

-- a table of least local sums by parts is tight
pub tight_by_parts : (n : Net) (tables : List Table) (t : Table) (p : Parts) → ArePartsOf n tables t p
    → length p.down ≡ n.horizon + 1 → length p.up ≡ n.horizon + 1 → t.most ≤ n.horizon → AreLeast t.kind p t.least t.most t.floor t.values → Tight n tables t
tight_by_parts n tables t p of long long' most least = record {
  lower = λ i o covers.
      let same = local_by_parts n tables t p i o of (omega (arith, long, covers.not_above)) (omega (arith, long', most, covers.not_late)) in
      omega (arith, lower_by_kind t.kind n t p long least i o covers, same);
  reached = λ k within. ⊎_elim
      (λ top. inl top)
      (λ at.
      let same = local_by_parts n tables t p at.0 at.1 of (omega (arith, long, at.2.not_above)) (omega (arith, long', most, at.2.not_late)) in
      inr (at.0, at.1, at.2, at.3, at.4 ∙ sym same))
      (reached_by_kind t.kind n t p long least k within);
}

width_by_kind : (kind : Kind) (n : Net) (p : Parts) (least most floor : ℕ) (values : List ℕ) → length p.down ≡ n.horizon + 1
    → AreLeast kind p least most floor values → length values ≡ width kind n.horizon least most floor
width_by_kind Down n p least most floor values long known = known.0
width_by_kind Up n p least most floor values long known = omega (arith, known.0, long)
width_by_kind Root n p least most floor values long known = known.0

-- a wanted table of least local sums by parts is what filling gives
pub fill_by_parts : (n : Net) (tables : List Table) (w : Wanted) (p : Parts) (values : List ℕ) → IsWanted n tables w
    → ArePartsOf n tables (table_of w values) p → length p.down ≡ n.horizon + 1 → length p.up ≡ n.horizon + 1
    → AreLeast w.kind p w.least w.most w.floor values → IsFill n tables (table_of w values)
fill_by_parts n tables w p values wanted of long long' least = record {
  sized = record {
    stage = wanted.stage;
    interval = wanted.interval;
    within = wanted.within;
    floor = wanted.floor;
    values = width_by_kind w.kind n p w.least w.most w.floor values long least;
  };
  children = wanted.children;
  tight = tight_by_parts n tables (table_of w values) p of long long' wanted.within least;
}

pub ok_each : {T E : Type 0} (r : Result T E) (P Q : T → Type 0) → ((x : T) → P x → Q x) → IfOk r P → IfOk r Q
ok_each (Ok x) P Q step holds = step x holds
ok_each (Err e) P Q step holds = holds
