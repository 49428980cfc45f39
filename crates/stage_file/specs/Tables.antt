-- The rules and the records of a table file.
use Rattle.std.specs.Prelude.{◌≢◌, ℕ, ◌+◌, ◌<◌, ◌≤◌, ◌||◌, Bool, nat_lt, nat_le, List, [], ◌∷◌, ◌++◌, length, take, drop, map, codes, All, AllPairs, Option}
use Rattle.std.specs.List.{list_any}
use Rattle.std.specs.Str.{IsUtf8}
use Rattle.service_model.specs.Search.{first_of, first_below}
use Rattle.stage_file.specs.declared.limits.TheConstants.{MAX_NAME, MAX_TABLES, MAX_ENTRIES, MAX_EXCESS}
use Rattle.stage_file.specs.declared.rules.TheConstants.{FIELD_COUNT, NAME, NUMBER, RANGE, TOO_MANY, TWICE, TABLE_NAME}
use Rattle.stage_file.specs.declared.fault.FileFault.{FileFault}
use Rattle.stage_file.specs.declared.fault.FileKind.TheVariants.{Tables}
use Rattle.stage_file.specs.declared.tables.TableRow.{TableRow}
use Rattle.stage_file.specs.Records.{Numbered, records_of, below_header, record_at, field_in}
use Rattle.stage_file.specs.Fields.{is_bad_name, is_no_number, is_past, number_or, is_kept_name}
use Rattle.stage_file.specs.Faults.{fails_if, fails_from, text_rule, header_fault}
use Rattle.stage_file.specs.Stages.{is_name_of}

-- the fields behind the name
abbrev pub entries_in : Numbered → List (List ℕ)
entries_in r = drop 1 r.fields

-- the rules on the fields of a table record: they are text, not too few or too many, and the first may be a name
abbrev pub table_field_rules : Numbered → List (Option FileFault)
table_field_rules r =
    text_rule Tables r
    ∷ fails_if Tables r.number FIELD_COUNT 0 (nat_lt (length r.fields) 2 || nat_lt (MAX_ENTRIES + 1) (length r.fields))
    ∷ fails_if Tables r.number NAME 1 (is_bad_name (field_in r.fields 1))
    ∷ []

-- an entry gives no number
abbrev pub fails_as_entry : List ℕ → Bool
fails_as_entry field = is_no_number MAX_EXCESS field || is_past MAX_EXCESS field

-- the rules on its entries
abbrev pub entry_rules : Numbered → List (Option FileFault)
entry_rules r =
    fails_from Tables r.number NUMBER 2 (is_no_number MAX_EXCESS) (entries_in r)
    ∷ fails_from Tables r.number RANGE 2 (is_past MAX_EXCESS) (entries_in r)
    ∷ []

-- the rules on its place among the tables, given the records between the header and it
abbrev pub table_place_rules : List Numbered → Numbered → List (Option FileFault)
table_place_rules earlier r =
    fails_if Tables r.number TOO_MANY 0 (nat_le MAX_TABLES (length earlier))
    ∷ fails_if Tables r.number TWICE 1 (list_any (is_name_of (field_in r.fields 1)) earlier)
    ∷ fails_if Tables r.number TABLE_NAME 1 (is_kept_name (field_in r.fields 1))
    ∷ []

-- the rules on a table record in their order, given the records between the header and it
abbrev pub table_rules : List Numbered → Numbered → List (Option FileFault)
table_rules earlier r = table_field_rules r ++ entry_rules r ++ table_place_rules earlier r

-- the first rule that fails on record k behind the header
abbrev pub table_fault_at : List Numbered → ℕ → Option FileFault
table_fault_at records k = first_of (table_rules (take k records) (record_at records k))

-- the first rule that fails on a table file: the header, and then each record
abbrev pub table_file_fault : List (List (List ℕ)) → Option FileFault
table_file_fault rows =
    let records = below_header (records_of rows) in
    first_of (
    header_fault Tables (codes "table") (records_of rows)
    ∷ first_below (table_fault_at records) (length records)
    ∷ []
    )

-- the table of a record
unfoldable pub table_row_of : Numbered → TableRow
table_row_of r = record {
  name = field_in r.fields 1;
  entries = map (number_or 0 MAX_EXCESS) (entries_in r);
  row = r.number;
}

-- the tables of a file
abbrev pub table_rows_of : List (List (List ℕ)) → List TableRow
table_rows_of rows = map table_row_of (below_header (records_of rows))

-- a table's numbers are in their ranges
pub record TableRowWithin (t : TableRow) : Type 0 where
  pub some_name : 0 < length t.name
  pub short_name : length t.name ≤ MAX_NAME
  pub text : IsUtf8 t.name
  pub some : 0 < length t.entries
  pub few : length t.entries ≤ MAX_ENTRIES
  pub entries : All (λ x. x ≤ MAX_EXCESS) t.entries

-- tables as they are read: not too many, within their ranges, each with a name of its own
pub record AreTableRows (tables : List TableRow) : Type 0 where
  pub few : length tables ≤ MAX_TABLES
  pub within : All TableRowWithin tables
  pub distinct : AllPairs (λ s t. s.name ≢ t.name) tables
