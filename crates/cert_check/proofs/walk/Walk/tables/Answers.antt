use Rattle.std.proofs.Common.{◌<◌, [], ◌∷◌, length, Err, subst, arith}
use Rattle.service_model.specs.declared.table.Table.{Table}
use Rattle.service_model.specs.declared.cert.Item.TheVariants.{Table as TableItem}
use Rattle.cert_check.specs.Walking.{Walks}
use Rattle.cert_check.proofs.WalkFacts.{walks_stop}
use Rattle.cert_check.proofs.walk.Walk.tables.Goals as goal

pub returns-in-Err : goal.returns-in-Err
returns-in-Err c =
    let new = c.table.new.self in
    let within : c.tables.table-index < length c.args.tables.now = omega arith in
    let here = subst (λ (t : Table). Walks c.tables.self new (TableItem t ∷ []) (Err c.in-Err.fault)) c.table-item.is c.in-Err.ensures in
    walks_stop (λ t. TableItem t) c.args.tables.now c.tables.table-index c.table-item.result c.args.self.now c.tables.self new c.in-Err.fault within
    c.tables.invariant here
