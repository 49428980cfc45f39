-- The times of stages, as the records of a plan file give them.
use Rattle.std.specs.Prelude.{ℕ, Bool, true, List, map, find, slice_index_or, slice_set, Option, Some, None, is_some}
use Rattle.std.specs.Option.{option_map}
use Rattle.service_model.specs.declared.limits.TheConstants.{MAX_TIME}
use Rattle.service_model.specs.declared.plan.Plan.{Plan}
use Rattle.stage_file.specs.declared.plans.Times.{Times}
use Rattle.stage_file.specs.Records.{Numbered, field_in}
use Rattle.stage_file.specs.Fields.{number_or}
use Rattle.stage_file.specs.Stages.{is_name_of}

-- the times in a record's second and third field
unfoldable pub times_in : List (List ℕ) → Times
times_in fields = record { inbound = number_or 0 MAX_TIME (field_in fields 2); outbound = number_or 0 MAX_TIME (field_in fields 3) }

-- the times of the first record with the name
abbrev pub times_for : List Numbered → List ℕ → Option Times
times_for records name = option_map (λ r. times_in r.fields) (find (is_name_of name) records)

-- the times of each stage, where a record has its name
abbrev pub all_times : List (List ℕ) → List Numbered → List (Option Times)
all_times names records = map (times_for records) names

-- there is no stage, or it has times already
abbrev pub is_refused : Option ℕ → List (Option Times) → Bool
is_refused None times = true
is_refused (Some stage) times = is_some (slice_index_or times stage None)

-- the times with those of a stage put, if there is one
abbrev pub put_at : Option ℕ → Times → List (Option Times) → List (Option Times)
put_at None new times = times
put_at (Some stage) new times = slice_set times stage (Some new)

-- the inbound time, 0 where none is given
abbrev pub inbound_of : Option Times → ℕ
inbound_of None = 0
inbound_of (Some t) = t.inbound

-- the outbound time, 0 where none is given
abbrev pub outbound_of : Option Times → ℕ
outbound_of None = 0
outbound_of (Some t) = t.outbound

-- the plan with these times; 0 where there are none
abbrev pub plan_with : List (Option Times) → Plan
plan_with times = record { inbound = map inbound_of times; outbound = map outbound_of times }
