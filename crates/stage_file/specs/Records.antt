-- The records of a file: the rows with something in them, with their numbers.
use Rattle.std.specs.Prelude.{ℕ, ◌+◌, ◌-◌, ◌<◌, ◌^◌, ◌==◌, List, [], ◌∷◌, ◌++◌, length, drop, slice_index_or, All, if◌then◌else◌}
use Rattle.stage_file.specs.Rows.{without_blank_end}

-- a record: its number and its fields
pub record Numbered : Type 0 where
  pub number : ℕ
  pub fields : List (List ℕ)

-- what stands for a record that there is not
abbrev pub no_record : Numbered
no_record = record { number = 0; fields = [] }

-- a row without its blank end as a record, if there is something left in it
unfoldable pub kept_at : ℕ → List (List ℕ) → List Numbered
kept_at number row =
    if length (without_blank_end row) == 0 then [] else record { number = number; fields = without_blank_end row } ∷ []

-- the records of rows, the first of which has a number
unfoldable pub numbered : ℕ → List (List (List ℕ)) → List Numbered
numbered number [] = []
numbered number (row ∷ rows) = kept_at number row ++ numbered (number + 1) rows

-- the records of a file, numbered from 1 on
abbrev pub records_of : List (List (List ℕ)) → List Numbered
records_of rows = numbered 1 rows

-- the records behind the header
abbrev pub below_header : List Numbered → List Numbered
below_header records = drop 1 records

-- record k of a list
abbrev pub record_at : List Numbered → ℕ → Numbered
record_at records k = slice_index_or records k no_record

-- the field of a column, from 1 on; nothing where there is none
abbrev pub field_in : List (List ℕ) → ℕ → List ℕ
field_in fields column = slice_index_or fields (column - 1) []

-- rows and fields are few enough to be numbered
pub record AreCountable (rows : List (List (List ℕ))) : Type 0 where
  pub few_rows : length rows < 2 ^ 32
  pub short_rows : All (λ row. length row < 2 ^ 32) rows
