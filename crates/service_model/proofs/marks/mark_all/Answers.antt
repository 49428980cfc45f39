use Rattle.service_model.proofs.MarkFacts.{marks_more}
use Rattle.service_model.proofs.marks.mark_all.Goals as goal

pub loop-stage-preserved : goal.loop-stage-preserved
loop-stage-preserved c =
    marks_more c.args.stages.now c.loop-stage.stage-index c.args.seen.now c.loop-stage.seen c.mark_one.new.seen c.args.queue.now c.loop-stage.queue c.mark_one.new.queue
    c.loop-stage-test.true c.requires.there c.loop-stage.invariant c.in_ok-mark_one.ensures
