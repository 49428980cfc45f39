use Rattle.std.proofs.Common.{◌≡◌, ◌<◌, length, take, map, refl, ◌∙◌}
use Rattle.std.proofs.lemmas.List.{length-map}
use Rattle.std.proofs.lemmas.Result.{err_from_is_err_and}
use Rattle.service_model.specs.Search.{first_of}
use Rattle.stage_file.specs.Names.{name_in}
use Rattle.stage_file.specs.Seen.{seen_as, all_seen}
use Rattle.stage_file.specs.Stages.{stage_fault_at, stage_rules}
use Rattle.stage_file.specs.StageRecords.{stage_row_of}
use Rattle.stage_file.proofs.FaultFacts.{stops_below, first_below_step}
use Rattle.stage_file.proofs.RecordFacts.{seen_more}
use Rattle.stage_file.proofs.StageFacts.{stage_here}
use Rattle.stage_file.proofs.stages.stages_below.Goals as goal

pub returns-in_err-stage_of : goal.returns-in_err-stage_of
returns-in_err-stage_of c =
    let p = err_from_is_err_and c.from_residual.result c.from_residual.ensures.1 in
    let h = c.args.horizon in
    let records = c.args.records.now in
    let r = c.index-records-k.result in
    let rules = first_of (stage_rules h (all_seen (take c.records.k records)) (seen_as r)) in
    let here : stage_fault_at h (all_seen records) c.records.k ≡ rules = stage_here h records c.records.k r c.records-test.true c.index-records-k.is in
    let within : c.records.k < length (all_seen records) = rw length-map c.records-test.true in
    rw (p.1, p.2) (
    stops_below (stage_fault_at h (all_seen records)) (length (all_seen records)) c.records.k rules (stage_row_of h (seen_as r)) (map (stage_row_of h) (all_seen records)) c.in_err-stage_of.field-0.0 c.records.invariant.faults within here c.in_err-stage_of.ensures.value
    )

pub records-preserved : goal.records-preserved
records-preserved c =
    let h = c.args.horizon in
    let records = c.args.records.now in
    let r = c.index-records-k.result in
    let k = c.records.k in
    let before = c.records.invariant in
    let here = stage_here h records k r c.records-test.true c.index-records-k.is in
    let name : c.field_in.result.now ≡ name_in (seen_as r) = c.field_in.ensures in
    record {
      faults = first_below_step (stage_fault_at h (all_seen records)) k before.faults ∙ here ∙ c.in_ok-stage_of.ensures.value.0;
      stages = rw (c.in_ok-push.ensures.ok, before.stages, c.in_ok-stage_of.ensures.value.1, seen_more (stage_row_of h) records k r c.records-test.true c.index-records-k.is) refl;
      names = rw (c.in_ok-push-2.ensures.ok, before.names, name, seen_more name_in records k r c.records-test.true c.index-records-k.is) refl;
    }
