-- The records of rows whose ends are not blank.
use Rattle.std.proofs.Common.{◌≡◌, ℕ, zero, suc, ◌+◌, ◌<◌, ◌==◌, false, List, [], ◌∷◌, length, get_or, All, refl, ap, ◌∙◌, arith}
use Rattle.std.proofs.lemmas.Bool.{ne_eqb}
use Rattle.service_model.specs.Search.{first_of}
use Rattle.stage_file.specs.declared.fault.FileKind.{FileKind}
use Rattle.stage_file.specs.Faults.{header_fault, header_rules}
use Rattle.stage_file.specs.Rows.{without_blank_end}
use Rattle.stage_file.specs.Records.{kept_at, numbered, records_of, below_header, no_record}
use Rattle.stage_file.specs.Seen.{record_of}

-- a row with something in it, and no blank fields at its end
pub record IsFull (row : List (List ℕ)) : Type 0 where
  pub some : 0 < length row
  pub whole : without_blank_end row ≡ row

kept : (k : ℕ) (row : List (List ℕ)) → IsFull row → kept_at k row ≡ record_of k row ∷ []
unfolding kept_at
kept k row full =
    let some : (length row == 0) ≡ false = ne_eqb (length row) 0 (λ none. omega (arith, none, full.some)) in
    rw (full.whole, some) refl

-- each full row is a record
pub length_numbered : (k : ℕ) (rows : List (List (List ℕ))) → All IsFull rows → length (numbered k rows) ≡ length rows
unfolding numbered
length_numbered k [] full = refl
length_numbered k (row ∷ rows) full =
    let rest = length_numbered (k + 1) rows (λ i d inside. full (suc i) d (omega arith)) in
    rw (kept k row (full 0 row (omega arith))) (ap suc rest)

-- and they are numbered in their order
pub numbered_at : (k : ℕ) (rows : List (List (List ℕ))) (i : ℕ) → All IsFull rows → i < length rows → get_or (numbered k rows) i no_record ≡ record_of (k + i) (get_or rows i [])
unfolding numbered
numbered_at k [] i full inside = absurd (omega arith)
numbered_at k (row ∷ rows) zero full inside =
    let same : k ≡ k + 0 = omega arith in
    rw (kept k row (full 0 row (omega arith))) (ap (λ (n : ℕ). record_of n row) same)
numbered_at k (row ∷ rows) (suc i) full inside =
    let rest = numbered_at (k + 1) rows i (λ j d within. full (suc j) d (omega arith)) (omega arith) in
    let same : k + 1 + i ≡ k + suc i = omega arith in
    rw (kept k row (full 0 row (omega arith))) (rest ∙ ap (λ (n : ℕ). record_of n (get_or rows i [])) same)

-- the records behind a header
pub below_is : (header : List (List ℕ)) (rows : List (List (List ℕ))) → IsFull header → below_header (records_of (header ∷ rows)) ≡ numbered 2 rows
unfolding numbered
below_is header rows full = rw (kept 1 header full) refl

-- the header is the first record
pub header_is : (file : FileKind) (word : List ℕ) (header : List (List ℕ)) (rows : List (List (List ℕ))) → IsFull header
    → header_fault file word (records_of (header ∷ rows)) ≡ first_of (header_rules file word (record_of 1 header))
unfolding numbered
header_is file word header rows full = rw (kept 1 header full) refl
