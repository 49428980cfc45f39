-- The stages that the records of a stage file give.
use Rattle.std.specs.Prelude.{◌≢◌, ℕ, ◌<◌, ◌≤◌, min, List, length, map, codes, All, AllPairs, if◌then◌else◌}
use Rattle.std.specs.Str.{bytes_eq, IsUtf8}
use Rattle.service_model.specs.declared.limits.TheConstants.{MAX_TIME, MAX_STAGES}
use Rattle.stage_file.specs.declared.limits.TheConstants.{MAX_NAME, MAX_UNIT, MAX_FACTOR}
use Rattle.stage_file.specs.declared.stages.StageRow.{StageRow}
use Rattle.stage_file.specs.declared.stages.Bound.{Bound}
use Rattle.stage_file.specs.declared.stages.Bound.TheVariants.{Named, Normal, Sum, Pool}
use Rattle.stage_file.specs.Records.{Numbered, records_of, below_header, field_in}
use Rattle.stage_file.specs.Fields.{number_or, is_normal, factor_in}

-- what a bound's bytes mean
unfoldable pub bound_in : List ℕ → Bound
bound_in field =
    if bytes_eq field (codes "sum") then Sum
    else if bytes_eq field (codes "pool") then Pool
    else if is_normal field then Normal (number_or 0 MAX_FACTOR (factor_in field))
    else Named field

-- the stage of a record, its blanks filled; a greatest outbound time past the horizon counts as the horizon
unfoldable pub stage_row_of : ℕ → Numbered → StageRow
stage_row_of horizon r = record {
  name = field_in r.fields 1;
  lead = number_or 0 MAX_TIME (field_in r.fields 2);
  supply = number_or 0 MAX_TIME (field_in r.fields 3);
  least = number_or 0 MAX_TIME (field_in r.fields 4);
  most = min horizon (number_or horizon MAX_TIME (field_in r.fields 5));
  bound = bound_in (field_in r.fields 6);
  unit = number_or 0 MAX_UNIT (field_in r.fields 7);
  row = r.number;
}

-- the stages of a file
abbrev pub stage_rows_of : ℕ → List (List (List ℕ)) → List StageRow
stage_rows_of horizon rows = map (stage_row_of horizon) (below_header (records_of rows))

-- a bound's factor is in its range, where it has one
abbrev pub IsBoundWithin : Bound → Type 0
IsBoundWithin (Named name) = Unit {0}
IsBoundWithin (Normal factor) = factor ≤ MAX_FACTOR
IsBoundWithin Sum = Unit {0}
IsBoundWithin Pool = Unit {0}

-- a stage's numbers are in their ranges under a horizon
pub record StageRowWithin (horizon : ℕ) (s : StageRow) : Type 0 where
  pub some_name : 0 < length s.name
  pub short_name : length s.name ≤ MAX_NAME
  pub text : IsUtf8 s.name
  pub lead : s.lead ≤ MAX_TIME
  pub supply : s.supply ≤ horizon
  pub least : s.least ≤ s.most
  pub most : s.most ≤ horizon
  pub bound : IsBoundWithin s.bound
  pub unit : s.unit ≤ MAX_UNIT

-- stages as they are read: some, not too many, within their ranges, each with a name of its own
pub record AreStageRows (horizon : ℕ) (stages : List StageRow) : Type 0 where
  pub some : 0 < length stages
  pub few : length stages ≤ MAX_STAGES
  pub within : All (StageRowWithin horizon) stages
  pub distinct : AllPairs (λ s t. s.name ≢ t.name) stages
