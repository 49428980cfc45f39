use Rattle.std.proofs.Common.{take}
use Rattle.service_model.specs.Marks.{MarksAll}
use Rattle.service_model.proofs.marks.mark_all.Given as goal

abbrev pub invariant-loop-stage : goal.invariant-loop-stage
invariant-loop-stage l = MarksAll (take l.stage-index l.stages) l.initial.seen l.seen l.initial.queue l.queue
