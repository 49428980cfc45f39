use Rattle.std.proofs.Common.{◌<◌, ◌≤◌, length, sym, ◌∙◌, rules}
use Rattle.network_check.proofs.StageFacts.{stages_all, stages_more}
use Rattle.network_check.proofs.records.stages_of.Goals as goal

pub stages-preserved : goal.stages-preserved
stages-preserved c =
    let raw = c.args.raw.now in
    let s = c.get.result.now in
    let within : c.stages.k < length raw.stages = search rules in
    rw (c.in_ok-push.ensures.ok, c.in_ok-stage_of.ensures)
    (stages_more raw.stages c.args.excess.now c.stages.k s c.as_slice.result.now c.stages.stages c.requires.long within (c.get.ensures.whatever_else s)
    (c.get-in-stages.ensures.whatever_else c.as_slice.result.now ∙ sym c.as_slice.ensures) c.stages.invariant)

pub returns : goal.returns
returns c =
    let raw = c.args.raw.now in
    let done : length raw.stages ≤ c.stages.k = search rules in
    stages_all raw.stages c.args.excess.now c.stages.k c.stages.stages done c.stages.invariant
