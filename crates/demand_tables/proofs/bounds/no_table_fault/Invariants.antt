use Rattle.std.proofs.Common.{◌≡◌, None}
use Rattle.service_model.specs.Search.{first_below}
use Rattle.demand_tables.specs.DemandFaults.{no_table_at}
use Rattle.demand_tables.proofs.bounds.no_table_fault.Given as goal

abbrev pub invariant-stages : goal.invariant-stages
invariant-stages l = first_below (no_table_at l.lookups.raw.now) l.j ≡ None
