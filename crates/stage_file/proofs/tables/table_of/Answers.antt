use Rattle.std.proofs.Common.{◌++◌, refl, sym, ◌∙◌}
use Rattle.stage_file.specs.Names.{name_in}
use Rattle.stage_file.specs.Seen.{seen_as, all_seen}
use Rattle.stage_file.specs.Tables.{table_field_rules, entry_rules, table_place_rules, table_row_of}
use Rattle.stage_file.proofs.FaultFacts.{found_behind}
use Rattle.stage_file.proofs.NameFacts.{taken_seen}
use Rattle.stage_file.proofs.TableFacts.{holds_place}
use Rattle.stage_file.proofs.tables.table_of.Goals as goal

pub returns-clause-value : goal.returns-clause-value
unfolding table_row_of
returns-clause-value c =
    let r = seen_as c.args.record.now in
    let place = table_place_rules (all_seen c.args.earlier.now) r in
    let fields = found_behind (table_field_rules r) (entry_rules r ++ place) (sym c.in_default.ensures) in
    let entries = found_behind (entry_rules r) place c.in_ok-entries.ensures.0 in
    (fields ∙ entries ∙ sym c.in_default-place_fault.ensures, rw (c.in_ok-name.ensures, c.field_in.ensures, c.in_ok-entries.ensures.1) refl)

pub returns-clause-new : goal.returns-clause-new
returns-clause-new c =
    let r = seen_as c.args.record.now in
    let earlier = all_seen c.args.earlier.now in
    rw (← taken_seen (name_in r) earlier c.args.names.now c.requires.names) (holds_place earlier r (sym c.in_default-place_fault.ensures))
