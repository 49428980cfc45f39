use Rattle.std.proofs.Common.{take}
use Rattle.std.specs.Prelude.{All}
use Rattle.service_model.specs.CertNumbers.{TableInRange}
use Rattle.node_rules.proofs.tests.are_in_range.Given as goal

abbrev pub invariant-tables : goal.invariant-tables
invariant-tables l = All TableInRange (take l.table-index l.tables)
