use Rattle.std.proofs.Common.{◌<◌, length, rules}
use Rattle.demand_tables.proofs.TableNames.{table_is_new}
use Rattle.demand_tables.proofs.lookups.table_names.Goals as goal

pub push-requires : goal.push-requires
push-requires c =
    let within : c.tables.table-index < length c.args.tables.now = search rules in
    rw (c.tables.invariant, c.as_slice.ensures) (table_is_new c.args.tables.now c.tables.table-index c.table-item.result c.requires within c.table-item.is)
