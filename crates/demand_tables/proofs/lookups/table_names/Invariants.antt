use Rattle.std.proofs.Common.{◌≡◌, take}
use Rattle.demand_tables.specs.Demand.{table_names}
use Rattle.demand_tables.proofs.lookups.table_names.Given as goal

abbrev pub invariant-tables : goal.invariant-tables
invariant-tables l = l.names ≡ table_names (take l.table-index l.tables)
