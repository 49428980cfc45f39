use Rattle.std.proofs.Common.{◌≡◌, false, is_none, map, take}
use Rattle.std.specs.List.{list_any}
use Rattle.stage_file.specs.PlanTimes.{inbound_of, outbound_of}
use Rattle.stage_file.proofs.plans.plan_with.Given as goal

abbrev pub invariant-stages : goal.invariant-stages
invariant-stages l = record {
  inbound : l.inbound ≡ map inbound_of (take l.k l.times);
  outbound : l.outbound ≡ map outbound_of (take l.k l.times);
  none : list_any is_none (take l.k l.times) ≡ false;
}
