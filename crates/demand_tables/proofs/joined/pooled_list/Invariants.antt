use Rattle.std.proofs.Common.{◌≡◌, length}
use Rattle.std.specs.List.{sum_by}
use Rattle.gsm_nums.specs.Root.{IsRootUp}
use Rattle.demand_tables.specs.Demand.{EachTime, asked_square}
use Rattle.demand_tables.proofs.joined.pooled_list.Given as goal

abbrev pub invariant-times : goal.invariant-times
invariant-times l = record {
  long : length l.excess ≡ l.time;
  each : EachTime (λ t x. IsRootUp (sum_by (asked_square l.lists t) l.arcs) x) l.excess;
}
