use Rattle.std.proofs.Common.{◌≡◌}
use Rattle.trial_rows.specs.Trials.{is_supplier}
use Rattle.trial_rows.proofs.MoreFacts.{mark_is, stage_more}
use Rattle.trial_rows.proofs.files.stage_rows.Goals as goal

pub stages-preserved : goal.stages-preserved
stages-preserved c =
    let mark : c.index.result.now ≡ is_supplier c.args.arcs.now c.stages.j =
    mark_is c.in_ok-suppliers.suppliers.items c.args.arcs.now _ c.stages.j c.index.result.now c.in_ok-suppliers.ensures.long c.stages-test.true c.in_ok-suppliers.ensures.each c.index.ensures in
    stage_more c.args.stages.now c.args.arcs.now c.stages.j c.stages.rows c.push-in-stages.new.self c.in_ok-stage_row.field-0 c.index.result.now c.stages.invariant mark c.in_ok-stage_row.ensures c.in_ok-push-2.ensures.ok
