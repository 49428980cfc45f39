use Rattle.std.proofs.Common.{rules}
use Rattle.stage_file.specs.Seen.{all_seen}
use Rattle.stage_file.proofs.EndFacts.{twice_seen}
use Rattle.stage_file.proofs.arcs.end_fault.Goals as goal

pub returns : goal.returns
returns c =
    rw (twice_seen c.args.names.now c.args.record.now.fields.now (all_seen c.args.earlier.now) c.args.ends.now c.requires.ends)
    (search rules)
