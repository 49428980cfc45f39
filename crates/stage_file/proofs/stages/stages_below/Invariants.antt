use Rattle.std.proofs.Common.{◌≡◌, None, map, take}
use Rattle.service_model.specs.Search.{first_below}
use Rattle.stage_file.specs.Names.{names_in}
use Rattle.stage_file.specs.Seen.{all_seen}
use Rattle.stage_file.specs.Stages.{stage_fault_at}
use Rattle.stage_file.specs.StageRecords.{stage_row_of}
use Rattle.stage_file.proofs.stages.stages_below.Given as goal

abbrev pub invariant-records : goal.invariant-records
invariant-records l = record {
  faults : first_below (stage_fault_at l.horizon (all_seen l.records)) l.k ≡ None;
  stages : l.stages ≡ map (stage_row_of l.horizon) (all_seen (take l.k l.records));
  names : l.names ≡ names_in (all_seen (take l.k l.records));
}
