-- Tables that are read are within their limits.
use Rattle.std.proofs.Common.{◌≡◌, ℕ, ◌+◌, ◌-◌, ◌<◌, ◌≤◌, ◌||◌, false, ltb, List, [], ◌∷◌, length, map, take, get_or, leb, None, Result, Ok, Err, refl, arith}
use Rattle.std.specs.Prelude.{codes, IfOk}
use Rattle.std.proofs.lemmas.Bool.Decides.{nat_tests}
use Rattle.std.proofs.lemmas.List.{length-map, length-drop}
use Rattle.std.proofs.lemmas.List.Elements.{All-map, All-from_get_or}
use Rattle.std.specs.List.{list_any}
use Rattle.service_model.specs.Search.{first_of, first_below}
use Rattle.stage_file.specs.declared.fault.FileKind.TheVariants.{Tables}
use Rattle.stage_file.specs.declared.fault.ReadFault.{ReadFault}
use Rattle.stage_file.specs.declared.limits.TheConstants.{MAX_TABLES, MAX_ENTRIES, MAX_EXCESS}
use Rattle.stage_file.specs.declared.rules.TheConstants.{FIELD_COUNT, NAME, TOO_MANY, TWICE}
use Rattle.stage_file.specs.declared.tables.TableRow.{TableRow}
use Rattle.stage_file.specs.Faults.{Reads, header_fault}
use Rattle.stage_file.specs.Fields.{is_bad_name, number_or}
use Rattle.stage_file.specs.Names.{name_in}
use Rattle.stage_file.specs.Records.{Numbered, records_of, below_header, record_at, field_in, no_record}
use Rattle.stage_file.specs.Stages.{is_name_of}
use Rattle.stage_file.specs.Tables.{table_rules, table_fault_at, table_file_fault, table_row_of, table_rows_of, entries_in, TableRowWithin, AreTableRows}
use Rattle.stage_file.proofs.FaultFacts.{first_of_none, none_below}
use Rattle.stage_file.proofs.LimitFacts.{passes, text_holds, name_holds, number_le, few_records, distinct_records}

count_holds : (n : ℕ) → (ltb n 2 || ltb (MAX_ENTRIES + 1) n) ≡ false → (2 ≤ n) × (n ≤ MAX_ENTRIES + 1)
count_holds n holds = (grind (arith, nat_tests), grind (arith, nat_tests))

-- a record on which the rules hold is a table within its limits
table_within : (earlier : List Numbered) (r : Numbered) → first_of (table_rules earlier r) ≡ None → TableRowWithin (table_row_of r)
unfolding table_row_of
table_within earlier r none =
    let each = first_of_none (table_rules earlier r) none in
    let count = count_holds (length r.fields) (passes Tables r.number FIELD_COUNT 0 (ltb (length r.fields) 2 || ltb (MAX_ENTRIES + 1) (length r.fields)) each.1.0) in
    let name = name_holds (field_in r.fields 1) (passes Tables r.number NAME 1 (is_bad_name (field_in r.fields 1)) each.1.1.0) in
    let entries : length (map (number_or 0 MAX_EXCESS) (entries_in r)) ≡ length r.fields - 1 = rw (length-map, length-drop) refl in
    record {
      some_name = name.0;
      short_name = name.1;
      text = text_holds Tables r.number r.fields each.0 0 (omega (arith, count.0));
      some = omega (arith, entries, count.0);
      few = omega (arith, entries, count.1);
      entries = All-map (λ x. x ≤ MAX_EXCESS) (number_or 0 MAX_EXCESS) (entries_in r) (λ k d l. number_le 0 MAX_EXCESS (get_or (entries_in r) k d) (omega arith));
    }

-- the rules on each record hold
abbrev Hold : List Numbered → Type 0
Hold records = (k : ℕ) → k < length records → table_fault_at records k ≡ None

not_too_many : (records : List Numbered) → Hold records → (k : ℕ) → k < length records → leb MAX_TABLES (length (take k records)) ≡ false
not_too_many records hold k within =
    let r = record_at records k in
    passes Tables r.number TOO_MANY 0 (leb MAX_TABLES (length (take k records))) (first_of_none (table_rules (take k records) r) (hold k within)).1.1.1.1.1.0

not_twice : (records : List Numbered) → Hold records → (k : ℕ) → k < length records → list_any (is_name_of (name_in (record_at records k))) (take k records) ≡ false
not_twice records hold k within =
    let r = record_at records k in
    passes Tables r.number TWICE 1 (list_any (is_name_of (name_in r)) (take k records)) (first_of_none (table_rules (take k records) r) (hold k within)).1.1.1.1.1.1.0

name_of_row : (r : Numbered) → (table_row_of r).name ≡ name_in r
unfolding table_row_of
name_of_row r = refl

tables_within : (records : List Numbered) → Hold records → AreTableRows (map table_row_of records)
tables_within records hold =
    let few = few_records records MAX_TABLES (not_too_many records hold) in
    record {
      few = omega (arith, length-map records table_row_of, few);
      within = All-map TableRowWithin table_row_of records (All-from_get_or (λ r. TableRowWithin (table_row_of r)) records no_record (λ k l. table_within (take k records) (record_at records k) (hold k l)));
      distinct = distinct_records table_row_of (λ (t : TableRow). t.name) records name_of_row (not_twice records hold);
    }

-- the tables of a file on which the rules hold
pub rows_within : (rows : List (List (List ℕ))) → table_file_fault rows ≡ None → AreTableRows (table_rows_of rows)
rows_within rows none =
    let records = below_header (records_of rows) in
    let each = first_of_none (header_fault Tables (codes "table") (records_of rows) ∷ first_below (table_fault_at records) (length records) ∷ []) none in
    tables_within records (none_below (table_fault_at records) (length records) each.1.0)

pub read_within : (rows : List (List (List ℕ))) (result : Result (List TableRow) ReadFault) → Reads (table_file_fault rows) (table_rows_of rows) result → IfOk result AreTableRows
read_within rows (Ok read) reads = rw reads.1 (rows_within rows reads.0)
read_within rows (Err e) reads = tt
