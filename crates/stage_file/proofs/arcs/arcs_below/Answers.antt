use Rattle.std.proofs.Common.{◌≡◌, ◌<◌, Some, length, take, map, refl, ◌∙◌}
use Rattle.std.proofs.lemmas.List.{length-map, map_push}
use Rattle.std.proofs.lemmas.Result.{err_from_is_err_and}
use Rattle.service_model.specs.Search.{first_of}
use Rattle.stage_file.specs.declared.ends.Ends.{Ends}
use Rattle.stage_file.specs.Records.{Numbered}
use Rattle.stage_file.specs.Seen.{seen_as, all_seen}
use Rattle.stage_file.specs.Arcs.{arc_fault_at, arc_row_of, arc_rules}
use Rattle.stage_file.specs.Ends.{ends_in, ends_of}
use Rattle.stage_file.proofs.ArcFacts.{arc_here, arc_holds, ends_found, ends_new}
use Rattle.stage_file.proofs.FaultFacts.{stops_below, first_below_step}
use Rattle.stage_file.proofs.RecordFacts.{seen_more}
use Rattle.stage_file.proofs.arcs.arcs_below.Goals as goal

pub returns-in_err-arc : goal.returns-in_err-arc
returns-in_err-arc c =
    let p = err_from_is_err_and c.from_residual.result c.from_residual.ensures.1 in
    let names = c.args.names.now in
    let records = c.args.records.now in
    let k = c.records.k in
    let r = c.index-records-k.result in
    let rules = first_of (arc_rules names (all_seen (take k records)) (seen_as r)) in
    let here : arc_fault_at names (all_seen records) k ≡ rules = arc_here names records k r c.records-test.true c.index-records-k.is in
    let within : k < length (all_seen records) = rw length-map c.records-test.true in
    rw (p.1, p.2) (
    stops_below (arc_fault_at names (all_seen records)) (length (all_seen records)) k rules (arc_row_of names (seen_as r)) (map (arc_row_of names) (all_seen records)) c.in_err-arc.field-0.0 c.records.invariant.faults within here c.in_err-arc.ensures
    )

pub push-requires : goal.push-requires
push-requires c =
    let names = c.args.names.now in
    let earlier = all_seen (take c.records.k c.args.records.now) in
    let r = seen_as c.index-records-k.result in
    let holds = arc_holds names earlier r c.in_ok-arc.ensures.0 in
    rw c.in_ok-arc.ensures.1 (ends_new names earlier r c.records.ends c.records.invariant.ends holds)

pub records-preserved : goal.records-preserved
records-preserved c =
    let names = c.args.names.now in
    let records = c.args.records.now in
    let k = c.records.k in
    let r = c.index-records-k.result in
    let before = c.records.invariant in
    let within = c.records-test.true in
    let at = c.index-records-k.is in
    let holds = arc_holds names (all_seen (take k records)) (seen_as r) c.in_ok-arc.ensures.0 in
    let some = λ (e : Ends). Some e in
    let found : ends_in names (seen_as r).fields ≡ Some (ends_of c.in_ok-arc.arc) = rw c.in_ok-arc.ensures.1 (ends_found names (all_seen (take k records)) (seen_as r) holds) in
    record {
      faults = first_below_step (arc_fault_at names (all_seen records)) k before.faults ∙ arc_here names records k r within at ∙ c.in_ok-arc.ensures.0;
      arcs = rw (c.in_ok-push-2.ensures.ok, before.arcs, c.in_ok-arc.ensures.1, seen_more (arc_row_of names) records k r within at) refl;
      ends = rw (c.in_ok-push.ensures.ok, map_push some c.records.ends, seen_more (λ (q : Numbered). ends_in names q.fields) records k r within at, before.ends, found) refl;
    }
