use Rattle.std.proofs.Common.{refl, sym, ◌∙◌}
use Rattle.gsm_gen.proofs.NetworkFacts.{stages_none, stages_more}
use Rattle.gsm_gen.proofs.stages.draw_stages.Goals as goal

pub stages-init : goal.stages-init
stages-init c seed has = (c.new-stages.ensures ∙ sym (stages_none seed c.args.horizon), has)

pub stages-preserved : goal.stages-preserved
stages-preserved c seed has =
    let before = c.stages.invariant seed has in
    let stage = c.draw_stage-stage.ensures.stage seed c.stages.k before.1 in
    (rw (c.in_ok-push.ensures.ok, stages_more, before.0, stage) refl, c.draw_stage-stage.ensures.taken seed c.stages.k before.1)
