use Rattle.std.proofs.Common.{◌≡◌, take}
use Rattle.std.specs.List.{sum_by}
use Rattle.demand_tables.specs.Demand.{asked_square}
use Rattle.demand_tables.proofs.joined.pooled_at.Given as goal

abbrev pub invariant-arcs : goal.invariant-arcs
invariant-arcs l = l.squares ≡ sum_by (asked_square l.lists l.time) (take l.arc-index l.arcs)
