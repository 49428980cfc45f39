use Rattle.std.proofs.Common.{◌≡◌, ◌<◌, None, length, take, replicate, rules, refl, sym, ◌∙◌}
use Rattle.std.proofs.lemmas.List.{length-map}
use Rattle.std.proofs.lemmas.Simd.{splat_is_map}
use Rattle.stage_file.specs.Seen.{seen_as, all_seen}
use Rattle.stage_file.specs.PlanRecords.{plan_fault_at}
use Rattle.stage_file.proofs.FaultFacts.{first_below_found, first_below_step}
use Rattle.stage_file.proofs.PlanFacts.{name_holds, plan_here, records_more}
use Rattle.stage_file.proofs.TimeFacts.{times_more}
use Rattle.stage_file.proofs.plans.times_below.Goals as goal

pub records-init : goal.records-init
records-init c =
    let none : c.in_ok-vec.field-0.items ≡ replicate c.len.result None = c.in_ok-vec.ensures.items_if_clones_equal (λ y h. search rules) in
    record {
      faults = refl;
      times = rw (c.from_vec-times.ensures, none) (splat_is_map c.args.names.now c.len.result None (sym c.len.ensures.value));
    }

pub returns-in-Some : goal.returns-in-Some
returns-in-Some c =
    let names = c.args.names.now in
    let records = c.args.records.now in
    let k = c.records.k in
    let within : k < length (all_seen records) = rw length-map c.records-test.true in
    let here = plan_here names records k c.index-records-k.result c.records-test.true c.index-records-k.is in
    first_below_found (plan_fault_at names (all_seen records)) (length (all_seen records)) k c.in-Some.fault c.records.invariant.faults within (here ∙ sym c.in-Some.ensures)

pub records-preserved : goal.records-preserved
records-preserved c =
    let names = c.args.names.now in
    let records = c.args.records.now in
    let k = c.records.k in
    let r = c.index-records-k.result in
    let before = c.records.invariant in
    let holds = name_holds names (all_seen (take k records)) (seen_as r) (sym c.in_default.ensures) in
    record {
      faults = first_below_step (plan_fault_at names (all_seen records)) k before.faults ∙ plan_here names records k r c.records-test.true c.index-records-k.is ∙ sym c.in_default.ensures;
      times = rw (c.put_times.ensures, records_more records k r c.records-test.true c.index-records-k.is)
          (times_more names (all_seen (take k records)) (seen_as r) c.records.times c.len.ensures.distinct before.times holds);
    }
