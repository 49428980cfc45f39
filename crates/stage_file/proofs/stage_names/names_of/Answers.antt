use Rattle.std.proofs.Common.{◌<◌, length, arith, refl}
use Rattle.std.proofs.lemmas.List.{map_more}
use Rattle.stage_file.specs.declared.stages.StageRow.{StageRow}
use Rattle.stage_file.proofs.StageNameFacts.{name_new}
use Rattle.stage_file.proofs.stage_names.names_of.Goals as goal

pub push-requires : goal.push-requires
push-requires c =
    let within : c.stages.k < length c.args.stages.now = omega arith in
    let s = c.get.result.now in
    rw (c.as_slice.ensures, c.stages.invariant) (name_new c.args.stages.now c.stages.k s c.requires within (c.get.ensures.whatever_else s))

pub stages-preserved : goal.stages-preserved
stages-preserved c =
    let within : c.stages.k < length c.args.stages.now = omega arith in
    let s = c.get.result.now in
    rw (c.in_ok-push.ensures.ok, c.as_slice.ensures, c.stages.invariant, map_more (λ (t : StageRow). t.name) c.args.stages.now c.stages.k s within, c.get.ensures.whatever_else s) refl
