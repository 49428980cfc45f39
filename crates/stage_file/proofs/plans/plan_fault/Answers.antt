use Rattle.std.proofs.Common.{rules}
use Rattle.stage_file.specs.Records.{field_in}
use Rattle.stage_file.specs.Seen.{all_seen}
use Rattle.stage_file.proofs.TimeFacts.{refused_seen}
use Rattle.stage_file.proofs.plans.plan_fault.Goals as goal

pub returns : goal.returns
returns c =
    rw (refused_seen c.args.names.now (field_in c.args.record.now.fields.now 1) (all_seen c.args.earlier.now) c.args.times.now c.requires.times)
    (search rules)
