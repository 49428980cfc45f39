-- The times of stages, as the records of a plan file give them.
use Rattle.std.proofs.Common.{Result, ◌≡◌, ◌≢◌, ℕ, ◌<◌, ◌||◌, Bool, true, false, not, cond, List, [], ◌∷◌, ◌++◌, length, map, get_or, set, Option, None, Some, is_none, is_some, unwrap_or, refl, sym, ap, ◌∙◌, arith, inl, inr}
use Rattle.std.specs.Prelude.{codes, find}
use Rattle.std.specs.Option.{option_map, option_or}
use Rattle.std.proofs.lemmas.Bool.{cases_eq, cases_lt}
use Rattle.std.proofs.lemmas.List.{length-map, length-set, get_or-map, get_or-set_same, get_or-set_other, same_lists}
use Rattle.std.proofs.lemmas.List.Folds.{find_at, find-append}
use Rattle.std.proofs.lemmas.List.Quantifiers.{position-Some}
use Rattle.std.proofs.lemmas.Option.{unwrap_or-slice_get}
use Rattle.std.proofs.lemmas.Slice.Eq.{bytes_eq-Decides}
use Rattle.std.specs.List.{list_any, position_or_len}
use Rattle.std.specs.Str.{bytes_eq}
use Rattle.gsm_nums.specs.Whole.{whole_of, without_spaces}
use Rattle.service_model.specs.declared.limits.TheConstants.{MAX_TIME}
use Rattle.stage_file.specs.declared.plans.Times.{Times}
use Rattle.service_model.specs.declared.plan.Plan.{Plan}
use Rattle.service_model.specs.Search.{first_of, first_below}
use Rattle.stage_file.specs.declared.fault.FileKind.TheVariants as kind
use Rattle.stage_file.specs.declared.fault.ReadFault.{ReadFault}
use Rattle.stage_file.specs.declared.rules.TheConstants.{PLAN_MISSING}
use Rattle.stage_file.specs.Faults.{fails_if, header_fault, Reads}
use Rattle.stage_file.specs.Records.{Numbered, records_of, below_header, record_at, field_in, no_record}
use Rattle.stage_file.specs.Fields.{number_or}
use Rattle.stage_file.specs.Names.{AreDistinct}
use Rattle.stage_file.specs.Stages.{is_name_of}
use Rattle.stage_file.specs.Arcs.{place_of, is_no_stage}
use Rattle.stage_file.specs.PlanRecords.{lacks_stage, time_for, plan_of, plan_fault_at, plan_file_fault}
use Rattle.stage_file.specs.PlanTimes.{times_in, times_for, all_times, is_refused, put_at, inbound_of, outbound_of, plan_with}
use Rattle.stage_file.proofs.EndFacts.{name_at}
use Rattle.stage_file.proofs.StageNameFacts.{unequal}

-- ---- a stage has times where a record has its name

some_if : (b : Bool) (x : Numbered) (o : Option Numbered) (more : Bool) → is_some (option_map (λ r. times_in r.fields) o) ≡ more → is_some (option_map (λ r. times_in r.fields) (cond b (Some x) o)) ≡ (b || more)
some_if true x o more same = refl
some_if false x o more same = same

times_there : (records : List Numbered) (name : List ℕ) → is_some (times_for records name) ≡ list_any (is_name_of name) records
times_there [] name = refl
times_there (r ∷ records) name = some_if (is_name_of name r) r (find (is_name_of name) records) (list_any (is_name_of name) records) (times_there records name)

none_is : {X : Type 0} (o : Option X) → is_none o ≡ not (is_some o)
none_is None = refl
none_is (Some x) = refl

-- some stage has no times where some stage has no record
pub lacks_seen : (names : List (List ℕ)) (records : List Numbered) → list_any is_none (all_times names records) ≡ lacks_stage names records
unfolding lacks_stage
lacks_seen [] records = refl
lacks_seen (name ∷ names) records =
    let here : is_none (times_for records name) ≡ not (list_any (is_name_of name) records) = none_is (times_for records name) ∙ ap not (times_there records name) in
    rw (here, lacks_seen names records) refl

refused_at : (names : List (List ℕ)) (name : List ℕ) (earlier : List Numbered) (place : Option ℕ) → place_of names name ≡ place
    → (is_none place || list_any (is_name_of name) earlier) ≡ is_refused place (all_times names earlier)
refused_at names name earlier None at = refl
refused_at names name earlier (Some k) at =
    let within : k < length names = (position-Some (bytes_eq name) names k [] at).0 in
    let there : get_or (all_times names earlier) k None ≡ times_for earlier name = get_or-map (times_for earlier) names k [] None within ∙ ap (times_for earlier) (sym (name_at names name k at)) in
    rw there (sym (times_there earlier name))

-- the name is no stage's, or an earlier record has it
pub refused_seen : (names : List (List ℕ)) (name : List ℕ) (earlier : List Numbered) (times : List (Option Times)) → times ≡ all_times names earlier
    → (is_no_stage names name || list_any (is_name_of name) earlier) ≡ is_refused (place_of names name) times
unfolding is_no_stage
refused_seen names name earlier times same = rw same (refused_at names name earlier (place_of names name) refl)

-- ---- one record more

no_more : (o : Option Numbered) (r : Numbered) (b : Bool) → b ≡ false → option_or o (cond b (Some r) None) ≡ o
no_more (Some x) r b fails = refl
no_more None r true fails = cc
no_more None r false fails = refl

other_name : (earlier : List Numbered) (r : Numbered) (name : List ℕ) → is_name_of name r ≡ false → times_for (earlier ++ r ∷ []) name ≡ times_for earlier name
other_name earlier r name fails =
    ap (option_map (λ (q : Numbered). times_in q.fields)) (find-append (is_name_of name) earlier (r ∷ []) ∙ no_more (find (is_name_of name) earlier) r (is_name_of name r) fails)

found_if : (o : Option Numbered) (r : Numbered) (b : Bool) → b ≡ true → is_some (option_map (λ q. times_in q.fields) o) ≡ false → option_map (λ q. times_in q.fields) (option_or o (cond b (Some r) None)) ≡ Some (times_in r.fields)
found_if (Some x) r b passes none = cc
found_if None r true passes none = refl
found_if None r false passes none = cc

own_name : (earlier : List Numbered) (r : Numbered) (name : List ℕ) → is_name_of name r ≡ true → list_any (is_name_of name) earlier ≡ false → times_for (earlier ++ r ∷ []) name ≡ Some (times_in r.fields)
own_name earlier r name passes new =
    rw find-append (found_if (find (is_name_of name) earlier) r (is_name_of name r) passes (times_there earlier name ∙ new))

same_name : (names : List (List ℕ)) (r : Numbered) (k : ℕ) → place_of names (field_in r.fields 1) ≡ Some k → is_name_of (get_or names k []) r ≡ true
unfolding is_name_of
same_name names r k at = (bytes_eq-Decides (get_or names k []) (field_in r.fields 1)).1 (sym (name_at names (field_in r.fields 1) k at))

two_places : (names : List (List ℕ)) (i j : ℕ) → AreDistinct names → i < length names → j < length names → i ≢ j → get_or names i [] ≢ get_or names j []
two_places names i j distinct first second differ same =
    elim (cases_lt i j) [ inl less ↦ distinct i j [] less second same | inr more ↦ distinct j i [] (omega arith) first (sym same) ]

differs : (names : List (List ℕ)) (r : Numbered) (i k : ℕ) → AreDistinct names → place_of names (field_in r.fields 1) ≡ Some k → i < length names → i ≢ k → is_name_of (get_or names i []) r ≡ false
unfolding is_name_of
differs names r i k distinct at within differ =
    let name = field_in r.fields 1 in
    let last : k < length names = (position-Some (bytes_eq name) names k [] at).0 in
    let names_differ : get_or names i [] ≢ name = λ same. two_places names i k distinct within last differ (same ∙ name_at names name k at) in
    unequal (get_or names i []) name (bytes_eq (get_or names i []) name) refl names_differ

put_here : (names : List (List ℕ)) (earlier : List Numbered) (r : Numbered) (k i : ℕ) (d : Option Times) → AreDistinct names → place_of names (field_in r.fields 1) ≡ Some k
    → list_any (is_name_of (field_in r.fields 1)) earlier ≡ false → i < length names
    → get_or (set (all_times names earlier) k (Some (times_in r.fields))) i d ≡ get_or (all_times names (earlier ++ r ∷ [])) i d
put_here names earlier r k i d distinct at new within =
    let last : k < length names = (position-Some (bytes_eq (field_in r.fields 1)) names k [] at).0 in
    let name = name_at names (field_in r.fields 1) k at in
    rw (get_or-map (times_for (earlier ++ r ∷ [])) names i [] d within) (
    elim (cases_eq i k) [
      | inl here ↦ (let fresh : list_any (is_name_of (get_or names k [])) earlier ≡ false = rw (← name) new in
          rw (here, get_or-set_same (all_times names earlier) k (Some (times_in r.fields)) d (omega (arith, length-map names (times_for earlier)))) (sym (own_name earlier r (get_or names k []) (same_name names r k at) fresh)))
      | inr other ↦ rw (get_or-set_other (all_times names earlier) k i (Some (times_in r.fields)) d other, get_or-map (times_for earlier) names i [] d within)
          (sym (other_name earlier r (get_or names i []) (differs names r i k distinct at within other)))
    ]
    )

put_places : (names : List (List ℕ)) (earlier : List Numbered) (r : Numbered) (place : Option ℕ) → AreDistinct names → place_of names (field_in r.fields 1) ≡ place
    → is_none place ≡ false → list_any (is_name_of (field_in r.fields 1)) earlier ≡ false
    → put_at place (times_in r.fields) (all_times names earlier) ≡ all_times names (earlier ++ r ∷ [])
put_places names earlier r None distinct at found new = cc
put_places names earlier r (Some k) distinct at found new =
    let after = set (all_times names earlier) k (Some (times_in r.fields)) in
    let many : length after ≡ length names = rw (length-set, length-map) refl in
    same_lists after (all_times names (earlier ++ r ∷ [])) (many ∙ sym (length-map names (times_for (earlier ++ r ∷ []))))
    (λ i d within. put_here names earlier r k i d distinct at new (omega arith))

neither : (a b : Bool) → (a || b) ≡ false → (a ≡ false) × (b ≡ false)
neither true b none = cc
neither false b none = (refl, none)

-- the times of one record more, whose name is a stage's and new
pub times_more : (names : List (List ℕ)) (earlier : List Numbered) (r : Numbered) (times : List (Option Times)) → AreDistinct names → times ≡ all_times names earlier
    → (is_no_stage names (field_in r.fields 1) || list_any (is_name_of (field_in r.fields 1)) earlier) ≡ false
    → put_at (place_of names (field_in r.fields 1)) (times_in r.fields) times ≡ all_times names (earlier ++ r ∷ [])
unfolding is_no_stage
times_more names earlier r times distinct same holds =
    let name = field_in r.fields 1 in
    let found = neither (is_none (place_of names name)) (list_any (is_name_of name) earlier) holds in
    rw same (put_places names earlier r (place_of names name) distinct refl found.0 found.1)

-- ---- the plan of a file

inbound_found : (o : Option Numbered) → inbound_of (option_map (λ r. times_in r.fields) o) ≡ number_or 0 MAX_TIME (field_in (unwrap_or o no_record).fields 2)
unfolding times_in number_or whole_of without_spaces
inbound_found None = refl
inbound_found (Some r) = refl

outbound_found : (o : Option Numbered) → outbound_of (option_map (λ r. times_in r.fields) o) ≡ number_or 0 MAX_TIME (field_in (unwrap_or o no_record).fields 3)
unfolding times_in number_or whole_of without_spaces
outbound_found None = refl
outbound_found (Some r) = refl

first_record : (records : List Numbered) (name : List ℕ) → unwrap_or (find (is_name_of name) records) no_record ≡ record_at records (position_or_len (is_name_of name) records)
first_record records name = rw find_at (unwrap_or-slice_get records (position_or_len (is_name_of name) records) no_record)

inbound_seen : (names : List (List ℕ)) (records : List Numbered) → map inbound_of (all_times names records) ≡ map (time_for records 2) names
inbound_seen [] records = refl
inbound_seen (name ∷ names) records = rw (inbound_found (find (is_name_of name) records), first_record records name, inbound_seen names records) refl

outbound_seen : (names : List (List ℕ)) (records : List Numbered) → map outbound_of (all_times names records) ≡ map (time_for records 3) names
outbound_seen [] records = refl
outbound_seen (name ∷ names) records = rw (outbound_found (find (is_name_of name) records), first_record records name, outbound_seen names records) refl

pub plan_seen : (names : List (List ℕ)) (rows : List (List (List ℕ))) → plan_with (all_times names (below_header (records_of rows))) ≡ plan_of names rows
unfolding plan_of
plan_seen names rows = rw (inbound_seen names (below_header (records_of rows)), outbound_seen names (below_header (records_of rows))) refl

first_of_one : {X : Type 0} (o : Option X) → first_of (o ∷ []) ≡ o
first_of_one None = refl
first_of_one (Some x) = refl

-- where no rule fails up to the end of a plan file, its plan is that of the times, unless a stage lacks them
pub plan_reads : (names : List (List ℕ)) (rows : List (List (List ℕ))) (times : List (Option Times)) (result : Result Plan ReadFault) → header_fault kind.Plan (codes "stage") (records_of rows) ≡ None
    → first_below (plan_fault_at names (below_header (records_of rows))) (length (below_header (records_of rows))) ≡ None → times ≡ all_times names (below_header (records_of rows))
    → Reads (fails_if kind.Plan 0 PLAN_MISSING 0 (list_any is_none times)) (plan_with times) result → Reads (plan_file_fault names rows) (plan_of names rows) result
plan_reads names rows times result header below same reads =
    let records = below_header (records_of rows) in
    let missing : list_any is_none times ≡ lacks_stage names records = rw same (lacks_seen names records) in
    let plan : plan_with times ≡ plan_of names rows = rw same (plan_seen names rows) in
    let last : first_of (fails_if kind.Plan 0 PLAN_MISSING 0 (lacks_stage names records) ∷ []) ≡ fails_if kind.Plan 0 PLAN_MISSING 0 (list_any is_none times) = rw missing (first_of_one (fails_if kind.Plan 0 PLAN_MISSING 0 (lacks_stage names records))) in
    rw (header, below, last, ← plan) reads
