-- Stages that are read are within their limits.
use Rattle.std.proofs.Common.{◌≡◌, ℕ, ◌<◌, ◌≤◌, ◌&&◌, Bool, true, false, not, min, ltb, leb, List, [], ◌∷◌, length, map, take, None, Result, Ok, Err, refl, arith}
use Rattle.std.specs.Prelude.{codes, IfOk, ◌==◌, if◌then◌else◌}
use Rattle.std.proofs.lemmas.Bool.Decides.{nat_tests}
use Rattle.std.proofs.lemmas.List.{length-map}
use Rattle.std.proofs.lemmas.List.Elements.{All-map, All-from_get_or}
use Rattle.std.specs.List.{list_any}
use Rattle.std.specs.Str.{bytes_eq}
use Rattle.service_model.specs.Search.{first_of, first_below}
use Rattle.service_model.specs.declared.limits.TheConstants.{MAX_TIME, MAX_STAGES}
use Rattle.stage_file.specs.declared.fault.FileKind.TheVariants.{Stages}
use Rattle.stage_file.specs.declared.fault.ReadFault.{ReadFault}
use Rattle.stage_file.specs.declared.limits.TheConstants.{MAX_UNIT, MAX_FACTOR}
use Rattle.stage_file.specs.declared.rules.TheConstants.{FIELD_COUNT, NAME, TOO_MANY, NO_STAGES, TWICE, LIMITS, PAST_HORIZON}
use Rattle.stage_file.specs.declared.stages.StageRow.{StageRow}
use Rattle.stage_file.specs.declared.stages.Bound.TheVariants.{Named, Normal, Sum, Pool}
use Rattle.stage_file.specs.Rows.{is_blank}
use Rattle.stage_file.specs.Faults.{Reads, fails_if, header_fault}
use Rattle.stage_file.specs.Fields.{is_bad_name, number_or, is_normal, factor_in}
use Rattle.stage_file.specs.Names.{name_in}
use Rattle.stage_file.specs.Records.{Numbered, no_record, records_of, below_header, record_at, field_in}
use Rattle.stage_file.specs.Stages.{is_name_of, has_crossed_limits, stage_limits, stage_rules, stage_fault_at, stage_file_fault}
use Rattle.stage_file.specs.StageRecords.{bound_in, stage_row_of, stage_rows_of, IsBoundWithin, StageRowWithin, AreStageRows}
use Rattle.stage_file.proofs.FaultFacts.{first_of_none, none_below}
use Rattle.stage_file.proofs.FieldFacts.{number_of_blank, number_grows}
use Rattle.stage_file.proofs.LimitFacts.{passes, text_holds, name_holds, number_le, few_records, distinct_records}

-- the bound of any bytes is within its limits
bound_if : (a b c : Bool) (field : List ℕ) → IsBoundWithin (if a then Sum else if b then Pool else if c then Normal (number_or 0 MAX_FACTOR (factor_in field)) else Named field)
bound_if true b c field = tt
bound_if false true c field = tt
bound_if false false true field = number_le 0 MAX_FACTOR (factor_in field) (omega arith)
bound_if false false false field = tt

bound_within : (field : List ℕ) → IsBoundWithin (bound_in field)
unfolding bound_in
bound_within field = bound_if (bytes_eq field (codes "sum")) (bytes_eq field (codes "pool")) (is_normal field) field

-- limits that do not cross stand in their order
limits_if : (blank : Bool) (least most most_read horizon : ℕ) → (not blank && ltb most least) ≡ false → (blank ≡ true → most_read ≡ horizon) → (blank ≡ false → most ≤ most_read) → least ≤ horizon → least ≤ min horizon most_read
limits_if true least most most_read horizon crossed b n past = (let same = b refl in omega arith)
limits_if false least most most_read horizon crossed b n past = (let same = n refl in grind (arith, nat_tests))

limits_hold : (horizon : ℕ) (fields : List (List ℕ)) → has_crossed_limits fields ≡ false → number_or 0 MAX_TIME (field_in fields 4) ≤ horizon
    → number_or 0 MAX_TIME (field_in fields 4) ≤ min horizon (number_or horizon MAX_TIME (field_in fields 5))
unfolding has_crossed_limits
limits_hold horizon fields crossed past =
    let most = field_in fields 5 in
    limits_if (is_blank most) (number_or 0 MAX_TIME (field_in fields 4)) (number_or 0 MAX_TIME most) (number_or horizon MAX_TIME most) horizon crossed
    (number_of_blank horizon MAX_TIME most) (λ b. number_grows 0 horizon MAX_TIME most (omega arith)) past

not_past : (horizon n : ℕ) → ltb horizon n ≡ false → n ≤ horizon
not_past horizon n past = grind (arith, nat_tests)

all_fields : (n : ℕ) → not (n == 7) ≡ false → 0 < n
all_fields n holds = grind (arith, nat_tests)

-- a record on which the rules hold is a stage within its limits
stage_within : (horizon : ℕ) (earlier : List Numbered) (r : Numbered) → first_of (stage_rules horizon earlier r) ≡ None → StageRowWithin horizon (stage_row_of horizon r)
unfolding stage_row_of
stage_within horizon earlier r none =
    let each = first_of_none (stage_rules horizon earlier r) none in
    let some : 0 < length r.fields = all_fields (length r.fields) (passes Stages r.number FIELD_COUNT 0 (not (length r.fields == 7)) each.1.0) in
    let name = name_holds (field_in r.fields 1) (passes Stages r.number NAME 1 (is_bad_name (field_in r.fields 1)) each.1.1.0) in
    let limits = first_of_none (stage_limits horizon r) each.1.1.1.1.1.1.1.0 in
    let supply = number_or 0 MAX_TIME (field_in r.fields 3) in
    let least = number_or 0 MAX_TIME (field_in r.fields 4) in
    let early = not_past horizon least (passes Stages r.number PAST_HORIZON 4 (ltb horizon least) limits.1.1.0) in
    record {
      some_name = name.0;
      short_name = name.1;
      text = text_holds Stages r.number r.fields each.0 0 some;
      lead = number_le 0 MAX_TIME (field_in r.fields 2) (omega arith);
      supply = not_past horizon supply (passes Stages r.number PAST_HORIZON 3 (ltb horizon supply) limits.1.0);
      least = limits_hold horizon r.fields (passes Stages r.number LIMITS 4 (has_crossed_limits r.fields) limits.0) early;
      most = omega arith;
      bound = bound_within (field_in r.fields 6);
      unit = number_le 0 MAX_UNIT (field_in r.fields 7) (omega arith);
    }

-- the rules on each record hold
abbrev Hold : ℕ → List Numbered → Type 0
Hold horizon records = (k : ℕ) → k < length records → stage_fault_at horizon records k ≡ None

not_too_many : (horizon : ℕ) (records : List Numbered) → Hold horizon records → (k : ℕ) → k < length records → leb MAX_STAGES (length (take k records)) ≡ false
not_too_many horizon records hold k within =
    let r = record_at records k in
    passes Stages r.number TOO_MANY 0 (leb MAX_STAGES (length (take k records))) (first_of_none (stage_rules horizon (take k records) r) (hold k within)).1.1.1.1.1.0

not_twice : (horizon : ℕ) (records : List Numbered) → Hold horizon records → (k : ℕ) → k < length records → list_any (is_name_of (name_in (record_at records k))) (take k records) ≡ false
not_twice horizon records hold k within =
    let r = record_at records k in
    passes Stages r.number TWICE 1 (list_any (is_name_of (name_in r)) (take k records)) (first_of_none (stage_rules horizon (take k records) r) (hold k within)).1.1.1.1.1.1.0

name_of_row : (horizon : ℕ) (r : Numbered) → (stage_row_of horizon r).name ≡ name_in r
unfolding stage_row_of
name_of_row horizon r = refl

some_stage : (n : ℕ) → (n == 0) ≡ false → 0 < n
some_stage n holds = grind (arith, nat_tests)

stages_within : (horizon : ℕ) (records : List Numbered) → Hold horizon records → 0 < length records → AreStageRows horizon (map (stage_row_of horizon) records)
stages_within horizon records hold some =
    let few = few_records records MAX_STAGES (not_too_many horizon records hold) in
    let count = length-map records (stage_row_of horizon) in
    record {
      some = omega (arith, count, some);
      few = omega (arith, count, few);
      within = All-map (StageRowWithin horizon) (stage_row_of horizon) records (
          All-from_get_or (λ r. StageRowWithin horizon (stage_row_of horizon r)) records no_record (λ k l. stage_within horizon (take k records) (record_at records k) (hold k l))
          );
      distinct = distinct_records (stage_row_of horizon) (λ (s : StageRow). s.name) records (name_of_row horizon) (not_twice horizon records hold);
    }

-- the stages of a file on which the rules hold
pub rows_within : (horizon : ℕ) (rows : List (List (List ℕ))) → stage_file_fault horizon rows ≡ None → AreStageRows horizon (stage_rows_of horizon rows)
rows_within horizon rows none =
    let records = below_header (records_of rows) in
    let each = first_of_none (header_fault Stages (codes "stage") (records_of rows) ∷ first_below (stage_fault_at horizon records) (length records) ∷ fails_if Stages 0 NO_STAGES 0 (length records == 0) ∷ []) none in
    let some = some_stage (length records) (passes Stages 0 NO_STAGES 0 (length records == 0) each.1.1.0) in
    stages_within horizon records (none_below (stage_fault_at horizon records) (length records) each.1.0) some

pub read_within : (horizon : ℕ) (rows : List (List (List ℕ))) (result : Result (List StageRow) ReadFault)
    → Reads (stage_file_fault horizon rows) (stage_rows_of horizon rows) result → IfOk result (AreStageRows horizon)
read_within horizon rows (Ok read) reads = rw reads.1 (rows_within horizon rows reads.0)
read_within horizon rows (Err e) reads = tt
