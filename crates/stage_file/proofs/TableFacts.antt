-- The first rule that fails on the entries of a table.
use Rattle.std.proofs.Common.{◌≡◌, ℕ, ◌+◌, ◌<◌, ◌||◌, Bool, true, false, List, [], ◌∷◌, length, take, get_or, position, Option, Some, None, All, refl, sym}
use Rattle.std.proofs.lemmas.List.{take-map}
use Rattle.std.specs.List.{list_any}
use Rattle.service_model.specs.Search.{first_of}
use Rattle.stage_file.specs.declared.fault.FileFault.{FileFault}
use Rattle.stage_file.specs.declared.fault.FileKind.TheVariants.{Tables}
use Rattle.stage_file.specs.declared.limits.TheConstants.{MAX_EXCESS}
use Rattle.stage_file.specs.declared.rules.TheConstants.{NUMBER, RANGE, TWICE}
use Rattle.stage_file.specs.Fields.{is_no_number, is_past}
use Rattle.stage_file.specs.Faults.{fault_of, fails_from}
use Rattle.stage_file.specs.Names.{name_in}
use Rattle.stage_file.specs.Records.{Numbered}
use Rattle.stage_file.specs.Stages.{is_name_of}
use Rattle.stage_file.specs.Tables.{fails_as_entry, table_place_rules, table_rules, table_fault_at}
use Rattle.stage_file.specs.Seen.{seen_as, all_seen}
use Rattle.stage_file.specs.declared.record.Record.{Record}
use Rattle.stage_file.proofs.FaultFacts.{first_of_none}
use Rattle.stage_file.proofs.RecordFacts.{record_read}
use Rattle.stage_file.proofs.LimitFacts.{passes}
use Rattle.stage_file.proofs.ListFacts.{all_fail, first_place, no_place}

-- the rules on fields that are entries
abbrev pub on_entries : ℕ → List (List ℕ) → List (Option FileFault)
on_entries row fields = fails_from Tables row NUMBER 2 (is_no_number MAX_EXCESS) fields ∷ fails_from Tables row RANGE 2 (is_past MAX_EXCESS) fields ∷ []

pub number_first : (row : ℕ) (fields : List (List ℕ)) (place : ℕ) → Some place ≡ position (is_no_number MAX_EXCESS) fields → first_of (on_entries row fields) ≡ Some (fault_of Tables row NUMBER (2 + place))
unfolding fails_from
number_first row fields place at = rw (← at) refl

past_if : (a b : Bool) → a ≡ false → (a || b) ≡ true → b ≡ true
past_if true b none fails = cc
past_if false b none fails = fails

pub range_first : (row : ℕ) (fields : List (List ℕ)) (place : ℕ) → None ≡ position (is_no_number MAX_EXCESS) fields → place < length fields
    → All (λ f. is_past MAX_EXCESS f ≡ false) (take place fields) → fails_as_entry (get_or fields place []) ≡ true → first_of (on_entries row fields) ≡ Some (fault_of Tables row RANGE (2 + place))
unfolding fails_from
range_first row fields place none within before fails =
    let numbers = all_fail (is_no_number MAX_EXCESS) fields (sym none) in
    let past : is_past MAX_EXCESS (get_or fields place []) ≡ true = past_if (is_no_number MAX_EXCESS (get_or fields place [])) (is_past MAX_EXCESS (get_or fields place [])) (numbers place [] within) fails in
    let at : position (is_past MAX_EXCESS) fields ≡ Some place = first_place (is_past MAX_EXCESS) fields place [] within before past in
    rw (← none, at) refl

-- where no entry fails, neither rule does
pub entries_pass : (row : ℕ) (fields : List (List ℕ)) → All (λ f. is_no_number MAX_EXCESS f ≡ false) fields → All (λ f. is_past MAX_EXCESS f ≡ false) fields → first_of (on_entries row fields) ≡ None
unfolding fails_from
entries_pass row fields numbers within = rw (no_place (is_no_number MAX_EXCESS) fields [] numbers, no_place (is_past MAX_EXCESS) fields [] within) refl

-- where the rules on its place hold, its name is new
pub holds_place : (earlier : List Numbered) (r : Numbered) → first_of (table_place_rules earlier r) ≡ None → list_any (is_name_of (name_in r)) earlier ≡ false
holds_place earlier r none = passes Tables r.number TWICE 1 (list_any (is_name_of (name_in r)) earlier) (first_of_none (table_place_rules earlier r) none).1.0

-- the rules on the record that was read at a place
pub table_here : (records : List Record) (k : ℕ) (r : Record) → k < length records → r ≡ get_or records k r
    → table_fault_at (all_seen records) k ≡ first_of (table_rules (all_seen (take k records)) (seen_as r))
table_here records k r within at = rw (record_read records k r within at, take-map seen_as k records) refl
