use Rattle.std.proofs.Common.{sym}
use Rattle.stage_file.specs.Names.{name_in}
use Rattle.stage_file.specs.Seen.{seen_as, all_seen}
use Rattle.stage_file.proofs.NameFacts.{taken_seen}
use Rattle.stage_file.proofs.StageFacts.{holds_place}
use Rattle.stage_file.proofs.stages.stage_of.Goals as goal

pub returns-clause-new : goal.returns-clause-new
returns-clause-new c =
    let r = seen_as c.args.record.now in
    let earlier = all_seen c.args.earlier.now in
    rw (← taken_seen (name_in r) earlier c.args.names.now c.requires.names) (holds_place c.args.horizon earlier r (sym c.in_default-place_fault.ensures))
