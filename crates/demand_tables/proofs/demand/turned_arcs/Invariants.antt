use Rattle.std.proofs.Common.{◌≡◌, map, take}
use Rattle.demand_tables.specs.DemandFaults.{turned}
use Rattle.demand_tables.proofs.demand.turned_arcs.Given as goal

abbrev pub invariant-arcs : goal.invariant-arcs
invariant-arcs l = l.list ≡ map turned (take l.arc-index l.arcs)
