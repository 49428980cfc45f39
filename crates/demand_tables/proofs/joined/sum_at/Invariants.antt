use Rattle.std.proofs.Common.{◌≡◌, take}
use Rattle.std.specs.List.{sum_by}
use Rattle.demand_tables.specs.Demand.{asked}
use Rattle.demand_tables.proofs.joined.sum_at.Given as goal

abbrev pub invariant-arcs : goal.invariant-arcs
invariant-arcs l = l.sum ≡ sum_by (asked l.lists l.time) (take l.arc-index l.arcs)
