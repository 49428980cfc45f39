use Rattle.std.proofs.Common.{◌≡◌, None, map, take}
use Rattle.service_model.specs.Search.{first_below}
use Rattle.stage_file.specs.Names.{names_in}
use Rattle.stage_file.specs.Seen.{all_seen}
use Rattle.stage_file.specs.Tables.{table_fault_at, table_row_of}
use Rattle.stage_file.proofs.tables.tables_below.Given as goal

abbrev pub invariant-records : goal.invariant-records
invariant-records l = record {
  faults : first_below (table_fault_at (all_seen l.records)) l.k ≡ None;
  tables : l.tables ≡ map table_row_of (all_seen (take l.k l.records));
  names : l.names ≡ names_in (all_seen (take l.k l.records));
}
