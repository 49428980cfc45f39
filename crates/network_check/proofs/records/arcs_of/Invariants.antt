use Rattle.std.proofs.Common.{◌≡◌, map, take}
use Rattle.demand_tables.specs.DemandFaults.{supply_arc}
use Rattle.network_check.proofs.records.arcs_of.Given as goal

abbrev pub invariant-rows : goal.invariant-rows
invariant-rows l = l.arcs ≡ map supply_arc (take l.row-index l.rows)
