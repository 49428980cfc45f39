-- In files on which the rules hold the row of a named stage has each column.
use Rattle.std.proofs.Common.{◌≡◌, ℕ, ◌+◌, ◌-◌, ◌≤◌, ◌⊎◌, suc, Bool, true, false, cond, not, eqb, List, [], ◌∷◌, ◌++◌, length, take, drop, get_or, find, Option, Some, None, option_map, All, refl, subst, arith, inl, inr}
use Rattle.std.specs.Prelude.{codes, IfSome, ◌==◌}
use Rattle.std.proofs.lemmas.Bool.Decides.{nat_tests}
use Rattle.std.proofs.lemmas.List.Elements.{All-from_get_or}
use Rattle.service_model.specs.Search.{first_below}
use Rattle.stage_file.specs.declared.fault.FileKind.TheVariants.{Stages}
use Rattle.stage_file.specs.declared.rules.TheConstants.{FIELD_COUNT, NO_STAGES}
use Rattle.stage_file.specs.declared.raw.Files.{Files}
use Rattle.stage_file.specs.Rows.{without_blank_end}
use Rattle.stage_file.specs.Faults.{fails_if, header_fault}
use Rattle.stage_file.specs.Records.{Numbered, no_record, numbered, kept_at, records_of, below_header, record_at}
use Rattle.stage_file.specs.Seen.{record_of}
use Rattle.stage_file.specs.Stages.{is_name_of, stage_rules, stage_fault_at, stage_file_fault}
use Rattle.stage_file.proofs.FaultFacts.{first_of_none, none_below}
use Rattle.stage_file.proofs.LimitFacts.{passes}
use Rattle.edit_script.specs.declared.edit.Edit.{Edit}
use Rattle.edit_script.specs.declared.edit.Edit.TheVariants.{SetStage, AddStage, DropStage, SetTable, AddTable, DropTable, SetArc, AddArc, DropArc}
use Rattle.edit_script.specs.Steps.{IsWhole}
use Rattle.edit_script.specs.Names.{first_record, place_of}
use Rattle.edit_script.specs.Edited.{row_at, HasColumn}
use Rattle.edit_reuse.proofs.StepLaws.{cut_le}

-- a record of a stage has seven fields
abbrev HasSeven : Numbered → Type 0
HasSeven r = length r.fields ≡ 7

seven : (n : ℕ) → not (n == 7) ≡ false → n ≡ 7
seven n holds = grind (arith, nat_tests)

-- so has each where no rule fails on the file
all_seven : (horizon : ℕ) (rows : List (List (List ℕ))) → stage_file_fault horizon rows ≡ None → All HasSeven (below_header (records_of rows))
all_seven horizon rows none =
    let records = below_header (records_of rows) in
    let each = first_of_none (header_fault Stages (codes "stage") (records_of rows) ∷ first_below (stage_fault_at horizon records) (length records) ∷ fails_if Stages 0 NO_STAGES 0 (length records == 0) ∷ []) none in
    let hold = none_below (stage_fault_at horizon records) (length records) each.1.0 in
    All-from_get_or HasSeven records no_record (λ k within.
    let r = record_at records k in
    let rules = first_of_none (stage_rules horizon (take k records) r) (hold k within) in
    seven (length r.fields) (passes Stages r.number FIELD_COUNT 0 (not (length r.fields == 7)) rules.1.0))

find_if : (passes : Bool) (r : Numbered) (later : Option Numbered) (found : Numbered) → cond passes (Some r) later ≡ Some found → (r ≡ found) ⊎ (later ≡ Some found)
find_if true r later found is = inl (cc)
find_if false r later found is = inr is

-- what holds of each holds of the one that is found
all_found : (P : Numbered → Type 0) (test : Numbered → Bool) (records : List Numbered) (r : Numbered) → All P records → find test records ≡ Some r → P r
all_found P test [] r all found = cc
all_found P test (x ∷ records) r all found =
    elim (find_if (test x) x (find test records) r found) [
      | inl same ↦ subst P same (all 0 x (omega arith))
      | inr later ↦ all_found P test records r (λ k d within. all (suc k) d (omega arith)) later
    ]

-- a record fits the row that its number has in rows, the first of which has a number
abbrev Fits : ℕ → List (List (List ℕ)) → Numbered → Type 0
Fits first rows r = (first ≤ r.number) × (length r.fields ≤ length (get_or rows (r.number - first) []))

fits_here : (first : ℕ) (row : List (List ℕ)) (rows : List (List (List ℕ))) → Fits first (row ∷ rows) (record_of first (without_blank_end row))
fits_here first row rows =
    let here : first - first ≡ 0 = omega arith in
    (omega arith, rw here (cut_le row))

fits_later : (first : ℕ) (row : List (List ℕ)) (rows : List (List (List ℕ))) (r : Numbered) → Fits (first + 1) rows r → Fits first (row ∷ rows) r
fits_later first row rows r fits =
    let later : r.number - first ≡ suc (r.number - (first + 1)) = omega (arith, fits.0) in
    (omega (arith, fits.0), rw later fits.1)

first_if : (blank : Bool) (test : Numbered → Bool) (r : Numbered) (rest : List Numbered) (found : Numbered) → find test (cond blank [] (r ∷ []) ++ rest) ≡ Some found
    → (r ≡ found) ⊎ (find test rest ≡ Some found)
first_if true test r rest found is = inr is
first_if false test r rest found is = find_if (test r) r (find test rest) found is

found_fits : (test : Numbered → Bool) (first : ℕ) (rows : List (List (List ℕ))) (r : Numbered) → find test (numbered first rows) ≡ Some r → Fits first rows r
unfolding numbered kept_at
found_fits test first [] r found = cc
found_fits test first (row ∷ rows) r found =
    elim (first_if (eqb (length (without_blank_end row)) 0) test (record_of first (without_blank_end row)) (numbered (first + 1) rows) r found) [
      | inl same ↦ subst (Fits first (row ∷ rows)) same (fits_here first row rows)
      | inr later ↦ fits_later first row rows r (found_fits test (first + 1) rows r later)
    ]

header_if : (blank : Bool) (test : Numbered → Bool) (r : Numbered) (rest : List Numbered) (found : Numbered) → find test (drop 1 (cond blank [] (r ∷ []) ++ rest)) ≡ Some found
    → (find test (drop 1 rest) ≡ Some found) ⊎ (find test rest ≡ Some found)
header_if true test r rest found is = inl is
header_if false test r rest found is = inr is

-- so does one behind the header
behind_fits : (test : Numbered → Bool) (first : ℕ) (rows : List (List (List ℕ))) (r : Numbered) → find test (below_header (numbered first rows)) ≡ Some r → Fits first rows r
unfolding numbered kept_at
behind_fits test first [] r found = cc
behind_fits test first (row ∷ rows) r found =
    elim (header_if (eqb (length (without_blank_end row)) 0) test (record_of first (without_blank_end row)) (numbered (first + 1) rows) r found) [
      | inl header ↦ fits_later first row rows r (behind_fits test (first + 1) rows r header)
      | inr later ↦ fits_later first row rows r (found_fits test (first + 1) rows r later)
    ]

if_some : (found : Option Numbered) (rows : List (List (List ℕ))) (column : ℕ) → ((r : Numbered) → found ≡ Some r → column ≤ length (row_at rows (r.number - 1)))
    → IfSome (option_map (λ r. r.number - 1) found) (λ k. column ≤ length (row_at rows k))
if_some None rows column each = tt
if_some (Some r) rows column each = each r refl

stage_has : (horizon : ℕ) (rows : List (List (List ℕ))) (name : List ℕ) (column : ℕ) → stage_file_fault horizon rows ≡ None → column ≤ 7
    → IfSome (place_of (is_name_of name) rows) (λ k. column ≤ length (row_at rows k))
unfolding place_of
stage_has horizon rows name column none low =
    if_some (first_record (is_name_of name) rows) rows column (λ r found.
    let full = all_found HasSeven (is_name_of name) (below_header (records_of rows)) r (all_seven horizon rows none) found in
    let fits = behind_fits (is_name_of name) 1 rows r found in
    omega (arith, full, fits.1, low))

-- an edit that is whole has its column
pub has_column : (horizon : ℕ) (files : Files) (e : Edit) → stage_file_fault horizon files.stages ≡ None → IsWhole e → HasColumn files e
has_column horizon files (SetStage name column value) none whole = stage_has horizon files.stages name column none whole.1
has_column horizon files (AddStage row) none whole = tt
has_column horizon files (DropStage name) none whole = tt
has_column horizon files (SetTable row) none whole = tt
has_column horizon files (AddTable row) none whole = tt
has_column horizon files (DropTable name) none whole = tt
has_column horizon files (SetArc row) none whole = tt
has_column horizon files (AddArc row) none whole = tt
has_column horizon files (DropArc supplier customer) none whole = tt
