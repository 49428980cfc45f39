use Rattle.std.proofs.Common.{◌≡◌, ◌<◌, length, take, map, refl, ◌∙◌, arith}
use Rattle.std.proofs.lemmas.List.{length-map, take_all}
use Rattle.std.proofs.lemmas.Result.{err_from_is_err_and}
use Rattle.service_model.specs.Search.{first_of}
use Rattle.stage_file.specs.Names.{name_in}
use Rattle.stage_file.specs.Seen.{seen_as, all_seen}
use Rattle.stage_file.specs.Tables.{table_fault_at, table_row_of, table_rules}
use Rattle.stage_file.proofs.FaultFacts.{stops_below, first_below_step}
use Rattle.stage_file.proofs.RecordFacts.{seen_more}
use Rattle.stage_file.proofs.TableFacts.{table_here}
use Rattle.stage_file.proofs.tables.tables_below.Goals as goal

pub table_of-requires-clause-names : goal.table_of-requires-clause-names
table_of-requires-clause-names c = c.records.invariant.names

pub returns-in_err-table_of : goal.returns-in_err-table_of
returns-in_err-table_of c =
    let p = err_from_is_err_and c.from_residual.result c.from_residual.ensures.1 in
    let records = c.args.records.now in
    let r = c.index-records-k.result in
    let rules = first_of (table_rules (all_seen (take c.records.k records)) (seen_as r)) in
    let here : table_fault_at (all_seen records) c.records.k ≡ rules = table_here records c.records.k r c.records-test.true c.index-records-k.is in
    let within : c.records.k < length (all_seen records) = rw length-map c.records-test.true in
    rw (p.1, p.2) (
    stops_below (table_fault_at (all_seen records)) (length (all_seen records)) c.records.k rules (table_row_of (seen_as r)) (map table_row_of (all_seen records)) c.in_err-table_of.field-0.0 c.records.invariant.faults within here c.in_err-table_of.ensures.value
    )

pub records-preserved : goal.records-preserved
records-preserved c =
    let records = c.args.records.now in
    let r = c.index-records-k.result in
    let k = c.records.k in
    let before = c.records.invariant in
    let here = table_here records k r c.records-test.true c.index-records-k.is in
    let name : c.field_in.result.now ≡ name_in (seen_as r) = c.field_in.ensures in
    record {
      faults = first_below_step (table_fault_at (all_seen records)) k before.faults ∙ here ∙ c.in_ok-table_of.ensures.value.0;
      tables = rw (c.in_ok-push.ensures.ok, before.tables, c.in_ok-table_of.ensures.value.1, seen_more table_row_of records k r c.records-test.true c.index-records-k.is) refl;
      names = rw (c.in_ok-push-2.ensures.ok, before.names, name, seen_more name_in records k r c.records-test.true c.index-records-k.is) refl;
    }

pub returns : goal.returns
returns c =
    let records = c.args.records.now in
    let whole : take c.records.k records ≡ records = take_all c.records.k records (omega arith) in
    let all : length (all_seen records) ≡ c.records.k = rw length-map (omega arith) in
    (rw all c.records.invariant.faults, rw whole at c.records.invariant.tables)
