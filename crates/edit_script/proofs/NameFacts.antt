-- One row more on the way to the first record of a name.
use Rattle.std.proofs.Common.{◌≡◌, ℕ, ◌+◌, ◌-◌, ◌<◌, ◌≤◌, Bool, true, false, eqb, List, [], ◌∷◌, length, drop, get_or, find, Option, Some, None, refl, ap, arith}
use Rattle.std.proofs.lemmas.List.{drop_all, drop_more}
use Rattle.stage_file.specs.Rows.{without_blank_end}
use Rattle.stage_file.specs.Records.{Numbered, numbered, kept_at}
use Rattle.stage_file.specs.Seen.{record_of}
use Rattle.edit_script.specs.Names.{first_record, place_of}

-- the first that passes among records: among all of them, or behind the first, which is the header
abbrev pub first_left : (Numbered → Bool) → Bool → List Numbered → Option Numbered
first_left test true records = find test records
first_left test false records = find test (drop 1 records)

-- the records of the rows from a place on
abbrev pub records_from : ℕ → List (List (List ℕ)) → List Numbered
records_from k rows = numbered (k + 1) (drop k rows)

-- the row at a place without its blank end
abbrev pub fields_at : List (List (List ℕ)) → ℕ → List (List ℕ)
fields_at rows k = without_blank_end (get_or rows k [])

-- a row without a record is passed over
pub left_past : (test : Numbered → Bool) (behind : Bool) (rows : List (List (List ℕ))) (k : ℕ) → k < length rows → eqb (length (fields_at rows k)) 0 ≡ true
    → first_left test behind (records_from k rows) ≡ first_left test behind (records_from (k + 1) rows)
unfolding numbered kept_at
left_past test behind rows k within none = rw (drop_more rows k [] within, none) refl

-- a row with a record
records_more : (rows : List (List (List ℕ))) (k : ℕ) → k < length rows → eqb (length (fields_at rows k)) 0 ≡ false
    → records_from k rows ≡ record_of (k + 1) (fields_at rows k) ∷ records_from (k + 1) rows
unfolding numbered kept_at
records_more rows k within some = rw (drop_more rows k [] within, some) refl

-- the header is passed over
pub left_header : (test : Numbered → Bool) (rows : List (List (List ℕ))) (k : ℕ) → k < length rows → eqb (length (fields_at rows k)) 0 ≡ false
    → first_left test false (records_from k rows) ≡ find test (records_from (k + 1) rows)
left_header test rows k within some = rw (records_more rows k within some) refl

-- a record of another name is passed over
pub left_other : (test : Numbered → Bool) (rows : List (List (List ℕ))) (k : ℕ) → k < length rows → eqb (length (fields_at rows k)) 0 ≡ false
    → test (record_of (k + 1) (fields_at rows k)) ≡ false → first_left test true (records_from k rows) ≡ find test (records_from (k + 1) rows)
left_other test rows k within some fails = rw (records_more rows k within some, fails) refl

-- a record of the name is the first
pub left_found : (test : Numbered → Bool) (rows : List (List (List ℕ))) (k : ℕ) → k < length rows → eqb (length (fields_at rows k)) 0 ≡ false
    → test (record_of (k + 1) (fields_at rows k)) ≡ true → first_left test true (records_from k rows) ≡ Some (record_of (k + 1) (fields_at rows k))
left_found test rows k within some passes = rw (records_more rows k within some, passes) refl

-- no rows are left
pub none_left : (test : Numbered → Bool) (behind : Bool) (rows : List (List (List ℕ))) (k : ℕ) → length rows ≤ k → first_left test behind (records_from k rows) ≡ None
unfolding numbered
none_left test true rows k end = rw (drop_all k rows end) refl
none_left test false rows k end = rw (drop_all k rows end) refl

-- the place of the first record
pub place_found : (test : Numbered → Bool) (rows : List (List (List ℕ))) (k : ℕ) (fields : List (List ℕ)) → first_record test rows ≡ Some (record_of (k + 1) fields) → Some k ≡ place_of test rows
unfolding place_of
place_found test rows k fields found =
    let back : k ≡ k + 1 - 1 = omega arith in
    rw found (ap (λ (n : ℕ). Some n) back)

pub place_none : (test : Numbered → Bool) (rows : List (List (List ℕ))) → first_record test rows ≡ None → None ≡ place_of test rows
unfolding place_of
place_none test rows none = rw none refl
