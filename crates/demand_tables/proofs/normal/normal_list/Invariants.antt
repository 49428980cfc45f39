use Rattle.std.proofs.Common.{◌≡◌, ◌*◌, length}
use Rattle.gsm_nums.specs.Root.{IsRootUp}
use Rattle.demand_tables.specs.Demand.{EachTime}
use Rattle.demand_tables.proofs.normal.normal_list.Given as goal

abbrev pub invariant-times : goal.invariant-times
invariant-times l = record {
  long : length l.excess ≡ l.time;
  each : EachTime (λ t x. IsRootUp (l.factor * l.factor * t) x) l.excess;
}
