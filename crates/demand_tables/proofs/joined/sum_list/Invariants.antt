use Rattle.std.proofs.Common.{◌≡◌, length}
use Rattle.std.specs.List.{sum_by}
use Rattle.demand_tables.specs.Demand.{EachTime, asked}
use Rattle.demand_tables.proofs.joined.sum_list.Given as goal

abbrev pub invariant-times : goal.invariant-times
invariant-times l = record {
  long : length l.excess ≡ l.time;
  each : EachTime (λ t x. x ≡ sum_by (asked l.lists t) l.arcs) l.excess;
}
