-- What it says of records that rules hold on them.
use Rattle.std.proofs.Common.{◌≡◌, ◌≢◌, ℕ, ◌+◌, ◌<◌, ◌≤◌, Bool, true, false, leb, List, [], length, map, take, get_or, position, option_map, Option, Some, None, Result, Ok, Err, AllPairs, refl, sym, arith, inl, inr}
use Rattle.std.proofs.lemmas.Bool.{cases_lt}
use Rattle.std.proofs.lemmas.Bool.Decides.{nat_tests}
use Rattle.std.proofs.lemmas.List.{length-take, length-map, get_or-take, get_or-map}
use Rattle.std.proofs.lemmas.List.Folds.{list_any_at}
use Rattle.std.proofs.lemmas.Slice.Eq.{bytes_eq-Decides}
use Rattle.std.specs.List.{list_any}
use Rattle.std.specs.Str.{IsUtf8}
use Rattle.gsm_nums.specs.Whole.{whole_of, without_spaces}
use Rattle.gsm_nums.specs.declared.whole.NumFault.{NumFault}
use Rattle.stage_file.specs.declared.fault.FileKind.{FileKind}
use Rattle.stage_file.specs.declared.limits.TheConstants.{MAX_NAME}
use Rattle.stage_file.specs.declared.rules.TheConstants.{NOT_TEXT}
use Rattle.stage_file.specs.Faults.{fault_of, fails_if, fails_from}
use Rattle.stage_file.specs.Fields.{is_no_text, is_bad_name, number_in, number_or, value_or}
use Rattle.stage_file.specs.Names.{name_in}
use Rattle.stage_file.specs.Records.{Numbered, no_record, record_at}
use Rattle.stage_file.specs.Stages.{is_name_of}
use Rattle.stage_file.proofs.FieldFacts.{text_from_test}
use Rattle.stage_file.proofs.ListFacts.{all_fail}

pub passes : (file : FileKind) (row rule column : ℕ) (fails : Bool) → fails_if file row rule column fails ≡ None → fails ≡ false
unfolding fails_if
passes file row rule column true none = cc
passes file row rule column false none = refl

no_image : {A B : Type 0} (f : A → B) (x : Option A) → option_map f x ≡ None → x ≡ None
no_image f None none = refl
no_image f (Some x) none = cc

-- the fields of a record are text
pub text_holds : (file : FileKind) (row : ℕ) (fields : List (List ℕ)) → fails_from file row NOT_TEXT 1 is_no_text fields ≡ None → (k : ℕ) → k < length fields → IsUtf8 (get_or fields k [])
unfolding fails_from
text_holds file row fields none k within =
    text_from_test (get_or fields k []) (all_fail is_no_text fields (no_image (λ (n : ℕ). fault_of file row NOT_TEXT (1 + n)) (position is_no_text fields) none) k [] within)

pub name_holds : (name : List ℕ) → is_bad_name name ≡ false → (0 < length name) × (length name ≤ MAX_NAME)
unfolding is_bad_name
name_holds name holds = (grind (arith, nat_tests), grind (arith, nat_tests))

-- a number is within its range
whole_le : (digits : List ℕ) (least most n : ℕ) → whole_of digits least most ≡ Ok n → n ≤ most
unfolding whole_of
whole_le digits least most n read = grind (arith, nat_tests)

value_le : (blank most : ℕ) (r : Result ℕ NumFault) → blank ≤ most → ((n : ℕ) → r ≡ Ok n → n ≤ most) → value_or blank r ≤ most
value_le blank most (Ok n) small le = le n refl
value_le blank most (Err e) small le = small

pub number_le : (blank most : ℕ) (field : List ℕ) → blank ≤ most → number_or blank most field ≤ most
unfolding number_or
number_le blank most field small = value_le blank most (number_in most field) small (whole_le (without_spaces field) 0 most)

-- no more records than may be
pub few_records : (records : List Numbered) (most : ℕ) → ((k : ℕ) → k < length records → leb most (length (take k records)) ≡ false) → length records ≤ most
few_records records most each =
    elim (cases_lt most (length records)) [
      | inl more ↦ (let full = each most more in let taken = length-take most records in grind (arith, nat_tests))
      | inr few ↦ few
    ]

-- each record has a name of its own
pub distinct_records : {X : Type 0} (row_of : Numbered → X) (name_of : X → List ℕ) (records : List Numbered) → ((r : Numbered) → name_of (row_of r) ≡ name_in r)
    → ((k : ℕ) → k < length records → list_any (is_name_of (name_in (record_at records k))) (take k records) ≡ false) → AllPairs (λ s t. name_of s ≢ name_of t) (map row_of records)
unfolding is_name_of
distinct_records row_of name_of records named each i j d before within same =
    let here : j < length records = omega (arith, length-map records row_of) in
    let a = record_at records i in
    let b = record_at records j in
    let first = get_or-map row_of records i no_record d (omega arith) in
    let second = get_or-map row_of records j no_record d here in
    let equal : name_in b ≡ name_in a = rw (← named a, ← named b, ← first, ← second) (sym same) in
    let there : get_or (take j records) i no_record ≡ a = get_or-take j records i no_record before in
    let found = list_any_at (is_name_of (name_in b)) (take j records) i no_record (omega (arith, length-take j records)) (rw there ((bytes_eq-Decides (name_in b) (name_in a)).1 equal)) in
    let none = each j here in
    cc
