use Rattle.std.proofs.Common.{codes}
use Rattle.command_words.specs.Names.{is_kept}
use Rattle.command_words.proofs.NameFacts.{begins_here, begins_otherwise}
use Rattle.command_words.proofs.names.is_kept.Goals as goal

pub returns-in-Some : goal.returns-in-Some
unfolding is_kept
returns-in-Some c =
    rw c.in-Numbered.is
    (begins_here c.args.name.now c.args.file.now (codes "-") c.as_bytes-in-Numbered-2.result.now c.as_bytes-in-Numbered.result.now c.in-Some.rest.now c.starts_with.result
    c.as_bytes-in-Numbered-2.ensures.value c.as_bytes-in-Numbered.ensures.value c.in-Some.ensures.cases.0 c.in-Some.ensures.cases.1 c.starts_with.ensures.value)

pub returns-in-None : goal.returns-in-None
unfolding is_kept
returns-in-None c =
    rw c.in-Numbered.is
    (begins_otherwise c.args.name.now c.args.file.now (codes "-") c.as_bytes-in-Numbered-2.result.now c.as_bytes-in-Numbered.result.now
    c.as_bytes-in-Numbered-2.ensures.value c.as_bytes-in-Numbered.ensures.value c.in-None.ensures.cases)
