use Rattle.std.proofs.Common.{◌≡◌}
use Rattle.edit_script.specs.Names.{is_of, first_record}
use Rattle.edit_script.proofs.NameFacts.{first_left, records_from}
use Rattle.edit_script.proofs.names.place_of.Given as goal

abbrev pub invariant-rows : goal.invariant-rows
invariant-rows l = first_left (is_of l.name) l.behind_header (records_from l.k l.rows) ≡ first_record (is_of l.name) l.rows
