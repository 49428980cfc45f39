use Rattle.std.proofs.Common.{map, take, Ok}
use Rattle.service_model.specs.declared.cert.Item.TheVariants.{Table as TableItem}
use Rattle.cert_check.specs.Walking.{Walks}
use Rattle.cert_check.proofs.walk.Walk.tables.Given as goal

abbrev pub invariant-tables : goal.invariant-tables
invariant-tables l = Walks l.initial.self l.self (map TableItem (take l.table-index l.tables)) (Ok tt)
