-- The rules and the records of a stage file.
use Rattle.std.specs.Prelude.{ℕ, ◌==◌, ◌&&◌, not, Bool, nat_lt, nat_le, List, [], ◌∷◌, ◌++◌, length, take, codes, Option, if◌then◌else◌}
use Rattle.std.specs.List.{list_any}
use Rattle.std.specs.Str.{bytes_eq}
use Rattle.service_model.specs.declared.limits.TheConstants.{MAX_TIME, MAX_STAGES}
use Rattle.service_model.specs.Search.{first_of, first_below}
use Rattle.stage_file.specs.declared.limits.TheConstants.{MAX_UNIT}
use Rattle.stage_file.specs.declared.rules.TheConstants.{FIELD_COUNT, NAME, NUMBER, RANGE, TOO_MANY, NO_STAGES, TWICE, LIMITS, PAST_HORIZON, BOUND}
use Rattle.stage_file.specs.declared.fault.FileFault.{FileFault}
use Rattle.stage_file.specs.declared.fault.FileKind.TheVariants.{Stages}
use Rattle.stage_file.specs.Rows.{is_blank}
use Rattle.stage_file.specs.Records.{Numbered, records_of, below_header, record_at, field_in}
use Rattle.stage_file.specs.Fields.{is_bad_name, is_no_number, is_misread, is_past, number_or, is_bad_bound}
use Rattle.stage_file.specs.Faults.{fails_if, text_rule, header_fault}

-- a rule of the stage file at a column of a record
abbrev pub stage_fails : Numbered → ℕ → ℕ → Bool → Option FileFault
stage_fails r rule column fails = fails_if Stages r.number rule column fails

-- an earlier record has the name
unfoldable pub is_name_of : List ℕ → Numbered → Bool
is_name_of name r = bytes_eq name (field_in r.fields 1)

-- the written least is above the written most, where that is not blank
unfoldable pub has_crossed_limits : List (List ℕ) → Bool
has_crossed_limits fields =
    not (is_blank (field_in fields 5)) && nat_lt (number_or 0 MAX_TIME (field_in fields 5)) (number_or 0 MAX_TIME (field_in fields 4))

-- each number field is digits, or blank where that is allowed
abbrev pub stage_numbers : Numbered → List (Option FileFault)
stage_numbers r =
    stage_fails r NUMBER 2 (is_no_number MAX_TIME (field_in r.fields 2))
    ∷ stage_fails r NUMBER 3 (is_misread MAX_TIME (field_in r.fields 3))
    ∷ stage_fails r NUMBER 4 (is_misread MAX_TIME (field_in r.fields 4))
    ∷ stage_fails r NUMBER 5 (is_misread MAX_TIME (field_in r.fields 5))
    ∷ stage_fails r NUMBER 7 (is_no_number MAX_UNIT (field_in r.fields 7))
    ∷ []

-- each number is in its column's range
abbrev pub stage_ranges : Numbered → List (Option FileFault)
stage_ranges r =
    stage_fails r RANGE 2 (is_past MAX_TIME (field_in r.fields 2))
    ∷ stage_fails r RANGE 3 (is_past MAX_TIME (field_in r.fields 3))
    ∷ stage_fails r RANGE 4 (is_past MAX_TIME (field_in r.fields 4))
    ∷ stage_fails r RANGE 5 (is_past MAX_TIME (field_in r.fields 5))
    ∷ stage_fails r RANGE 7 (is_past MAX_UNIT (field_in r.fields 7))
    ∷ []

-- the limits fit each other, and the horizon
abbrev pub stage_limits : ℕ → Numbered → List (Option FileFault)
stage_limits horizon r =
    stage_fails r LIMITS 4 (has_crossed_limits r.fields)
    ∷ stage_fails r PAST_HORIZON 3 (nat_lt horizon (number_or 0 MAX_TIME (field_in r.fields 3)))
    ∷ stage_fails r PAST_HORIZON 4 (nat_lt horizon (number_or 0 MAX_TIME (field_in r.fields 4)))
    ∷ []

-- the rules on the fields of a stage record by themselves
abbrev pub stage_field_rules : Numbered → List (Option FileFault)
stage_field_rules r =
    text_rule Stages r
    ∷ stage_fails r FIELD_COUNT 0 (not (length r.fields == 7))
    ∷ stage_fails r NAME 1 (is_bad_name (field_in r.fields 1))
    ∷ first_of (stage_numbers r)
    ∷ first_of (stage_ranges r)
    ∷ []

-- the rules on its place among the stages, given the records between the header and it, and on its limits and its bound
abbrev pub stage_place_rules : ℕ → List Numbered → Numbered → List (Option FileFault)
stage_place_rules horizon earlier r =
    stage_fails r TOO_MANY 0 (nat_le MAX_STAGES (length earlier))
    ∷ stage_fails r TWICE 1 (list_any (is_name_of (field_in r.fields 1)) earlier)
    ∷ first_of (stage_limits horizon r)
    ∷ stage_fails r BOUND 6 (is_bad_bound (field_in r.fields 6))
    ∷ []

-- the rules on a stage record in their order
abbrev pub stage_rules : ℕ → List Numbered → Numbered → List (Option FileFault)
stage_rules horizon earlier r = stage_field_rules r ++ stage_place_rules horizon earlier r

-- the first rule that fails on record k behind the header
abbrev pub stage_fault_at : ℕ → List Numbered → ℕ → Option FileFault
stage_fault_at horizon records k = first_of (stage_rules horizon (take k records) (record_at records k))

-- the first rule that fails on a stage file: the header, each record, and then the number of stages
abbrev pub stage_file_fault : ℕ → List (List (List ℕ)) → Option FileFault
stage_file_fault horizon rows =
    let records = below_header (records_of rows) in
    first_of (
    header_fault Stages (codes "stage") (records_of rows)
    ∷ first_below (stage_fault_at horizon records) (length records)
    ∷ fails_if Stages 0 NO_STAGES 0 (length records == 0)
    ∷ []
    )
