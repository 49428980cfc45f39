use Rattle.std.proofs.Common.{Some, ◌≡◌, position}
use Rattle.stage_file.specs.Tables.{entries_in}
use Rattle.stage_file.specs.Seen.{seen_as}
use Rattle.stage_file.specs.declared.limits.TheConstants.{MAX_EXCESS}
use Rattle.stage_file.specs.Fields.{is_no_number}
use Rattle.stage_file.proofs.TableFacts.{number_first, range_first}
use Rattle.stage_file.proofs.tables.entry_fault.Goals as goal

pub returns-in-Some : goal.returns-in-Some
returns-in-Some c =
    let fields = entries_in (seen_as c.args.record.now) in
    let found : Some c.in-Some.other ≡ position (is_no_number MAX_EXCESS) fields = rw (← c.entries_in.ensures) c.in-Some.ensures.value in
    rw c.fault_at.ensures (number_first c.args.record.now.number fields c.in-Some.other found)

pub returns-in-None : goal.returns-in-None
returns-in-None c =
    let fields = entries_in (seen_as c.args.record.now) in
    let none = rw c.entries_in.ensures at c.in-None.ensures.value in
    rw c.fault_at-in-None.ensures (range_first c.args.record.now.number fields c.args.place none c.requires.within c.requires.before c.requires.fails)
