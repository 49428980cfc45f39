-- Plan records on which the rules hold.
use Rattle.std.proofs.Common.{◌≡◌, ℕ, ◌+◌, ◌<◌, ◌||◌, Bool, true, false, List, [], ◌∷◌, ◌++◌, length, take, get_or, Option, None, Some, is_none, refl, sym, ap, ◌∙◌}
use Rattle.std.proofs.lemmas.List.{take-map, take_more, map_push}
use Rattle.std.specs.List.{list_any}
use Rattle.service_model.specs.Search.{first_of}
use Rattle.stage_file.specs.declared.fault.FileKind.TheVariants.{Plan}
use Rattle.stage_file.specs.declared.record.Record.{Record}
use Rattle.stage_file.specs.declared.rules.TheConstants.{PLAN_STAGE, PLAN_MISSING}
use Rattle.stage_file.specs.Faults.{fails_if}
use Rattle.stage_file.specs.Records.{Numbered, field_in}
use Rattle.stage_file.specs.Seen.{seen_as, all_seen}
use Rattle.stage_file.specs.Stages.{is_name_of}
use Rattle.stage_file.specs.Arcs.{is_no_stage}
use Rattle.stage_file.specs.PlanRecords.{plan_rules, plan_fault_at}
use Rattle.stage_file.proofs.FaultFacts.{first_of_none}
use Rattle.stage_file.proofs.LimitFacts.{passes}
use Rattle.stage_file.proofs.RecordFacts.{record_read}

-- its name is a stage's and new
pub name_holds : (names : List (List ℕ)) (earlier : List Numbered) (r : Numbered) → first_of (plan_rules names earlier r) ≡ None
    → (is_no_stage names (field_in r.fields 1) || list_any (is_name_of (field_in r.fields 1)) earlier) ≡ false
name_holds names earlier r none =
    passes Plan r.number PLAN_STAGE 1 (is_no_stage names (field_in r.fields 1) || list_any (is_name_of (field_in r.fields 1)) earlier) (first_of_none (plan_rules names earlier r) none).1.1.1.1.1.1.0

-- the rules on the record that was read at a place
pub plan_here : (names : List (List ℕ)) (records : List Record) (k : ℕ) (r : Record) → k < length records → r ≡ get_or records k r
    → plan_fault_at names (all_seen records) k ≡ first_of (plan_rules names (all_seen (take k records)) (seen_as r))
plan_here names records k r within at = rw (record_read records k r within at, take-map seen_as k records) refl

-- the records up to a place, and the record there
pub records_more : (records : List Record) (k : ℕ) (r : Record) → k < length records → r ≡ get_or records k r → all_seen (take (k + 1) records) ≡ all_seen (take k records) ++ seen_as r ∷ []
records_more records k r within at =
    let more : take (k + 1) records ≡ take k records ++ r ∷ [] = take_more records k r within ∙ ap (λ (x : Record). take k records ++ x ∷ []) (sym at) in
    rw more (map_push seen_as (take k records) r)

pub none_if : {X : Type 0} (o : Option X) → ((x : X) → o ≡ Some x → ⊥) → is_none o ≡ true
none_if None none = refl
none_if (Some x) none = absurd (none x refl)

-- no stage is missing
pub complete : (missing : Bool) → missing ≡ false → fails_if Plan 0 PLAN_MISSING 0 missing ≡ None
unfolding fails_if
complete true none = cc
complete false none = refl
