-- The rules and the records of a plan file.
use Rattle.std.specs.Prelude.{ℕ, ◌||◌, Bool, not, nat_lt, List, [], ◌∷◌, length, take, map, codes, Option}
use Rattle.std.specs.List.{list_any}
use Rattle.std.specs.List.{position_or_len}
use Rattle.service_model.specs.declared.limits.TheConstants.{MAX_TIME}
use Rattle.service_model.specs.declared.plan.Plan.{Plan}
use Rattle.service_model.specs.Search.{first_of, first_below}
use Rattle.stage_file.specs.declared.rules.TheConstants.{FIELD_COUNT, NUMBER, RANGE, PLAN_STAGE, PLAN_MISSING}
use Rattle.stage_file.specs.declared.fault.FileFault.{FileFault}
use Rattle.stage_file.specs.declared.fault.FileKind.TheVariants as kind
use Rattle.stage_file.specs.Records.{Numbered, records_of, below_header, record_at, field_in}
use Rattle.stage_file.specs.Fields.{is_no_number, is_past, number_or}
use Rattle.stage_file.specs.Faults.{fails_if, text_rule, header_fault}
use Rattle.stage_file.specs.Stages.{is_name_of}
use Rattle.stage_file.specs.Arcs.{is_no_stage}

-- the rules on a plan record in their order, given the stages' names and the records between the header and it
abbrev pub plan_rules : List (List ℕ) → List Numbered → Numbered → List (Option FileFault)
plan_rules names earlier r =
    text_rule kind.Plan r
    ∷ fails_if kind.Plan r.number FIELD_COUNT 0 (nat_lt (length r.fields) 3)
    ∷ fails_if kind.Plan r.number NUMBER 2 (is_no_number MAX_TIME (field_in r.fields 2))
    ∷ fails_if kind.Plan r.number NUMBER 3 (is_no_number MAX_TIME (field_in r.fields 3))
    ∷ fails_if kind.Plan r.number RANGE 2 (is_past MAX_TIME (field_in r.fields 2))
    ∷ fails_if kind.Plan r.number RANGE 3 (is_past MAX_TIME (field_in r.fields 3))
    ∷ fails_if kind.Plan r.number PLAN_STAGE 1
    (is_no_stage names (field_in r.fields 1) || list_any (is_name_of (field_in r.fields 1)) earlier)
    ∷ []

-- the first rule that fails on record k behind the header
abbrev pub plan_fault_at : List (List ℕ) → List Numbered → ℕ → Option FileFault
plan_fault_at names records k = first_of (plan_rules names (take k records) (record_at records k))

-- some stage has no record
unfoldable pub lacks_stage : List (List ℕ) → List Numbered → Bool
lacks_stage names records = list_any (λ name. not (list_any (is_name_of name) records)) names

-- the first rule that fails on a plan file: the header, each record, and then the stages that are missing
abbrev pub plan_file_fault : List (List ℕ) → List (List (List ℕ)) → Option FileFault
plan_file_fault names rows =
    let records = below_header (records_of rows) in
    first_of (
    header_fault kind.Plan (codes "stage") (records_of rows)
    ∷ first_below (plan_fault_at names records) (length records)
    ∷ fails_if kind.Plan 0 PLAN_MISSING 0 (lacks_stage names records)
    ∷ []
    )

-- the number in a column of the first record with the name
abbrev pub time_for : List Numbered → ℕ → List ℕ → ℕ
time_for records column name =
    number_or 0 MAX_TIME (field_in (record_at records (position_or_len (is_name_of name) records)).fields column)

-- the plan of a file, in the order of the stages
unfoldable pub plan_of : List (List ℕ) → List (List (List ℕ)) → Plan
plan_of names rows =
    let records = below_header (records_of rows) in
    record { inbound = map (time_for records 2) names; outbound = map (time_for records 3) names }
