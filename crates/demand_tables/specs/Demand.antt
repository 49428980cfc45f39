-- The excess demand of each stage at each time, by its bound.
use Rattle.std.specs.Prelude.{◌≡◌, ℕ, ◌+◌, ◌*◌, ◌<◌, ◌≤◌, ◌==◌, List, [], length, take, map, filter, slice_index, slice_index_or, Option, Some, option_map, All, Any}
use Rattle.std.specs.List.{sum_by}
use Rattle.gsm_nums.specs.Root.{IsRootUp}
use Rattle.stage_file.specs.declared.limits.TheConstants.{MAX_EXCESS}
use Rattle.stage_file.specs.declared.stages.StageRow.{StageRow}
use Rattle.stage_file.specs.declared.stages.Bound.{Bound}
use Rattle.stage_file.specs.declared.stages.Bound.TheVariants.{Named, Normal, Sum, Pool}
use Rattle.stage_file.specs.declared.tables.TableRow.{TableRow}
use Rattle.stage_file.specs.declared.arcs.ArcRow.{ArcRow}
use Rattle.stage_file.specs.declared.raw.RawNet.{RawNet}
use Rattle.stage_file.specs.Arcs.{place_of}

-- what stands for a stage that there is not
abbrev pub no_row : StageRow
no_row = record { name = []; lead = 0; supply = 0; least = 0; most = 0; bound = Sum; unit = 0; row = 0 }

-- the record of stage j
abbrev pub row_at : RawNet → ℕ → StageRow
row_at raw j = slice_index_or raw.stages j no_row

-- what stands for a table that there is not
abbrev pub no_table : TableRow
no_table = record { name = []; entries = []; row = 0 }

-- the names of tables, in their order
abbrev pub table_names : List TableRow → List (List ℕ)
table_names tables = map (λ t. t.name) tables

-- the entries up to the horizon of the table with a name, if there is one
unfoldable pub named_excess : RawNet → List ℕ → Option (List ℕ)
named_excess raw name =
    option_map (λ k. take (raw.horizon + 1) (slice_index_or raw.tables k no_table).entries) (place_of (table_names raw.tables) name)

-- what P says of a time and the entry at it holds at each time
abbrev pub EachTime : (ℕ → ℕ → Type 0) → List ℕ → Type 0
EachTime P xs = (t : ℕ) → t < length xs → P t (slice_index xs t)

-- up to the horizon the root of factor * factor * t, rounded up
pub record IsNormal (horizon factor : ℕ) (xs : List ℕ) : Type 0 where
  pub long : length xs ≡ horizon + 1
  pub each : EachTime (λ t x. IsRootUp (factor * factor * t) x) xs

-- the excess demand of stage j
abbrev pub excess_at : List (List ℕ) → ℕ → List ℕ
excess_at lists j = slice_index_or lists j []

-- the arcs from stage j to its customers
abbrev pub arcs_from : List ArcRow → ℕ → List ArcRow
arcs_from arcs j = filter (λ a. a.supplier == j) arcs

-- what the customer on an arc asks for over a time, in the supplier's units
abbrev pub asked : List (List ℕ) → ℕ → ArcRow → ℕ
asked lists t a = a.quantity * slice_index (excess_at lists a.customer) t

-- the square of that
abbrev pub asked_square : List (List ℕ) → ℕ → ArcRow → ℕ
asked_square lists t a = asked lists t a * asked lists t a

-- n is the length of the shortest excess demand among the customers on these arcs
pub record IsShortest (lists : List (List ℕ)) (arcs : List ArcRow) (n : ℕ) : Type 0 where
  pub reached : Any (λ a. length (excess_at lists a.customer) ≡ n) arcs
  pub least : All (λ a. n ≤ length (excess_at lists a.customer)) arcs

-- the sum of what the customers on these arcs ask for, as long as the shortest excess demand among them
pub record IsSum (lists : List (List ℕ)) (arcs : List ArcRow) (xs : List ℕ) : Type 0 where
  pub long : IsShortest lists arcs (length xs)
  pub each : EachTime (λ t x. x ≡ sum_by (asked lists t) arcs) xs

-- the root of the sum of the squares of what they ask for, rounded up, as long as the shortest excess demand among them
pub record IsPooled (lists : List (List ℕ)) (arcs : List ArcRow) (xs : List ℕ) : Type 0 where
  pub long : IsShortest lists arcs (length xs)
  pub each : EachTime (λ t x. IsRootUp (sum_by (asked_square lists t) arcs) x) xs

-- the excess demand under a bound, given those of the customers on these arcs
abbrev pub IsBounded : RawNet → List (List ℕ) → List ArcRow → Bound → List ℕ → Type 0
IsBounded raw lists arcs (Named name) xs = named_excess raw name ≡ Some xs
IsBounded raw lists arcs (Normal factor) xs = IsNormal raw.horizon factor xs
IsBounded raw lists arcs Sum xs = IsSum lists arcs xs
IsBounded raw lists arcs Pool xs = IsPooled lists arcs xs

-- the excess demand of stage j, given those of its customers
abbrev pub IsExcess : RawNet → List (List ℕ) → ℕ → List ℕ → Type 0
IsExcess raw lists j xs = IsBounded raw lists (arcs_from raw.arcs j) (row_at raw j).bound xs

-- one excess demand for each stage
pub record HasExcess (raw : RawNet) (lists : List (List ℕ)) : Type 0 where
  pub long : length lists ≡ length raw.stages
  pub each : (j : ℕ) → j < length raw.stages → IsExcess raw lists j (excess_at lists j)

-- no other lists are the excess demands
abbrev pub IsOnlyExcess : RawNet → List (List ℕ) → Type 0
IsOnlyExcess raw lists = (others : List (List ℕ)) → HasExcess raw others → others ≡ lists

-- an excess demand goes from time 0 on at most to the horizon, and no entry is too large
pub record ExcessWithin (horizon : ℕ) (xs : List ℕ) : Type 0 where
  pub some : 0 < length xs
  pub short : length xs ≤ horizon + 1
  pub small : All (λ x. x ≤ MAX_EXCESS) xs
