use Rattle.std.proofs.Common.{◌≡◌, None, map, take}
use Rattle.service_model.specs.Search.{first_below}
use Rattle.stage_file.specs.Seen.{all_seen}
use Rattle.stage_file.specs.Arcs.{arc_fault_at, arc_row_of}
use Rattle.stage_file.specs.Ends.{HaveEnds}
use Rattle.stage_file.proofs.arcs.arcs_below.Given as goal

abbrev pub invariant-records : goal.invariant-records
invariant-records l = record {
  faults : first_below (arc_fault_at l.names (all_seen l.records)) l.k ≡ None;
  arcs : l.arcs ≡ map (arc_row_of l.names) (all_seen (take l.k l.records));
  ends : HaveEnds l.names (all_seen (take l.k l.records)) l.ends;
}
