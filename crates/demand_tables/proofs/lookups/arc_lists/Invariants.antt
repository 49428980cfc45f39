use Rattle.std.proofs.Common.{take}
use Rattle.demand_tables.specs.Lookups.{HasArcs}
use Rattle.demand_tables.proofs.lookups.arc_lists.Given as goal

abbrev pub invariant-arcs : goal.invariant-arcs
invariant-arcs l = HasArcs l.stages (take l.arc-index l.arcs) l.lists.items
