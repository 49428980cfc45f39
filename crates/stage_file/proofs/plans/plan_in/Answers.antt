use Rattle.std.proofs.Common.{◌≡◌, sym, ap, ◌∙◌}
use Rattle.stage_file.specs.Records.{records_of, below_header}
use Rattle.stage_file.specs.Seen.{all_seen}
use Rattle.stage_file.proofs.TimeFacts.{plan_reads}
use Rattle.stage_file.proofs.plans.plan_in.Goals as goal

pub returns : goal.returns
returns c =
    let rows = c.args.rows.now in
    let all : all_seen c.deref.result.now ≡ records_of rows = ap all_seen c.deref.ensures.value ∙ c.in_ok-records.ensures.value in
    let below : all_seen c.below_header.result.now ≡ below_header (records_of rows) = c.below_header.ensures.value ∙ ap below_header (ap all_seen c.deref-2.ensures.value ∙ c.in_ok-records.ensures.value) in
    plan_reads c.args.names.now rows c.in_ok-times.times c.plan_with.result (rw (← all) (sym c.in_default.ensures)) (rw (← below) c.in_ok-times.ensures.0) (rw (← below) c.in_ok-times.ensures.1) c.plan_with.ensures
