use Rattle.edit_reuse.proofs.StepLaws.{step_short}
use Rattle.script_run.proofs.StepFacts.{word_told, count_told}
use Rattle.script_run.proofs.told.told_of.Goals as goal

pub edited-requires-clause-short : goal.edited-requires-clause-short
edited-requires-clause-short g c = step_short c.args.row.now c.in-Ok-Change.edit (rw c.in-Ok-Change.field-0-is at c.in-Ok-Change.ensures.value) c.requires.short

pub returns-in-Err-Word-clause-told : goal.returns-in-Err-Word-clause-told
returns-in-Err-Word-clause-told g c =
    word_told c.args.session.now c.args.number _ c.refused.result (rw c.in-Err-Word.field-0-is at c.in-Err-Word.ensures.value) c.refused.ensures.text c.refused.ensures.none

pub returns-in-Err-Count-clause-told : goal.returns-in-Err-Count-clause-told
returns-in-Err-Count-clause-told g c =
    count_told c.args.session.now c.args.number _ c.refused-in-Err-Count.result (rw c.in-Err-Count.field-0-is at c.in-Err-Count.ensures.value) c.refused-in-Err-Count.ensures.text c.refused-in-Err-Count.ensures.none
