use Rattle.std.proofs.Common.{◌≡◌, None, take}
use Rattle.service_model.specs.Search.{first_below}
use Rattle.stage_file.specs.Seen.{all_seen}
use Rattle.stage_file.specs.PlanRecords.{plan_fault_at}
use Rattle.stage_file.specs.PlanTimes.{all_times}
use Rattle.stage_file.proofs.plans.times_below.Given as goal

abbrev pub invariant-records : goal.invariant-records
invariant-records l = record {
  faults : first_below (plan_fault_at l.names (all_seen l.records)) l.k ≡ None;
  times : l.times ≡ all_times l.names (all_seen (take l.k l.records));
}
