-- An excess demand goes from time 0 on at most to the horizon.
use Rattle.std.proofs.Common.{ℕ, ◌≡◌, ◌+◌, ◌<◌, ◌≤◌, List, [], length, get_or, take, min, Option, Some, None, refl, subst, arith}
use Rattle.std.specs.Prelude.{All}
use Rattle.std.specs.Option.{option_map}
use Rattle.std.specs.Str.{bytes_eq}
use Rattle.std.proofs.lemmas.List.{length-map, length-take}
use Rattle.std.proofs.lemmas.List.Quantifiers.{position-Some}
use Rattle.std.proofs.lemmas.Option.{same_Some}
use Rattle.stage_file.specs.declared.stages.Bound.{Bound}
use Rattle.stage_file.specs.declared.stages.Bound.TheVariants.{Named, Normal, Sum, Pool}
use Rattle.stage_file.specs.declared.tables.TableRow.{TableRow}
use Rattle.stage_file.specs.declared.arcs.ArcRow.{ArcRow}
use Rattle.stage_file.specs.declared.raw.RawNet.{RawNet}
use Rattle.stage_file.specs.Arcs.{place_of}
use Rattle.demand_tables.specs.Demand.{no_table, table_names, named_excess, excess_at, ExcessWithin, IsShortest, IsBounded}
use Rattle.demand_tables.specs.DemandNet.{HaveEntries}

-- there is an entry, and none is past the horizon
pub record LastsWithin (horizon : ℕ) (xs : List ℕ) : Type 0 where
  pub some : 0 < length xs
  pub short : length xs ≤ horizon + 1

named_lasts : (raw : RawNet) (name : List ℕ) (place : Option ℕ) (xs : List ℕ) → HaveEntries raw.tables → place_of (table_names raw.tables) name ≡ place
    → option_map (λ k. take (raw.horizon + 1) (get_or raw.tables k no_table).entries) place ≡ Some xs → LastsWithin raw.horizon xs
named_lasts raw name None xs entered at is = cc
named_lasts raw name (Some k) xs entered at is =
    let found = position-Some (bytes_eq name) (table_names raw.tables) k [] at in
    let inside : k < length raw.tables = omega (arith, found.0, length-map raw.tables (λ (t : TableRow). t.name)) in
    let entries = (get_or raw.tables k no_table).entries in
    let some = entered k no_table inside in
    let size : length (take (raw.horizon + 1) (get_or raw.tables k no_table).entries) ≡ min (raw.horizon + 1) (length (get_or raw.tables k no_table).entries) = length-take (raw.horizon + 1) entries in
    subst (LastsWithin raw.horizon) (same_Some (take (raw.horizon + 1) entries) xs is) (record { some = omega (arith, size, some); short = omega (arith, size) })

shortest_lasts : (horizon : ℕ) (lists : List (List ℕ)) (arcs : List ArcRow) (xs : List ℕ) → All (λ a. ExcessWithin horizon (excess_at lists a.customer)) arcs → IsShortest lists arcs (length xs) → LastsWithin horizon xs
shortest_lasts horizon lists arcs xs within shortest =
    let (at, a, low, is, long) = shortest.reached in
    let here : ExcessWithin horizon (excess_at lists a.customer) = subst (λ (x : ArcRow). ExcessWithin horizon (excess_at lists x.customer)) is (within at a low) in
    let some = here.some in
    let short = here.short in
    record { some = omega (arith, long, some); short = omega (arith, long, short) }

pub bounded_lasts : (raw : RawNet) (lists : List (List ℕ)) (arcs : List ArcRow) (bound : Bound) (xs : List ℕ) → HaveEntries raw.tables
    → All (λ a. ExcessWithin raw.horizon (excess_at lists a.customer)) arcs → IsBounded raw lists arcs bound xs → LastsWithin raw.horizon xs
unfolding named_excess
bounded_lasts raw lists arcs (Named name) xs entered within is = named_lasts raw name (place_of (table_names raw.tables) name) xs entered refl is
bounded_lasts raw lists arcs (Normal factor) xs entered within is = let long = is.long in record { some = omega (arith, long); short = omega (arith, long) }
bounded_lasts raw lists arcs Sum xs entered within is = shortest_lasts raw.horizon lists arcs xs within is.long
bounded_lasts raw lists arcs Pool xs entered within is = shortest_lasts raw.horizon lists arcs xs within is.long
