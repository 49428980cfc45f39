use Rattle.script_run.proofs.StepFacts.{done_told, unknown_told, refused_told}
use Rattle.script_run.proofs.told.edited.Goals as goal

pub returns-in_ok-edit_done_text-in-Ok-clause-told : goal.returns-in_ok-edit_done_text-in-Ok-clause-told
returns-in_ok-edit_done_text-in-Ok-clause-told c =
    done_told c.args.session.now c.edit.new.self c.args.number c.args.edit.now c.line_alone.result c.in-Ok.ensures.value (rw c.line_alone.ensures.text c.in_ok-edit_done_text-in-Ok.ensures) c.line_alone.ensures.none

pub returns-in_ok-edit_fault_text-in-Err-Unknown-clause-told : goal.returns-in_ok-edit_fault_text-in-Err-Unknown-clause-told
returns-in_ok-edit_fault_text-in-Err-Unknown-clause-told c =
    unknown_told c.args.session.now c.edit.new.self c.args.number c.args.edit.now c.line_alone-in-Err-Unknown.result (rw c.in-Err-Unknown.field-0-is at c.in-Err-Unknown.ensures.value) c.in-Err-Unknown.ensures.unchanged
    (rw c.line_alone-in-Err-Unknown.ensures.text c.in_ok-edit_fault_text-in-Err-Unknown.ensures) c.line_alone-in-Err-Unknown.ensures.none

pub returns-in_ok-edit_refused_text-in-Err-File-clause-told : goal.returns-in_ok-edit_refused_text-in-Err-File-clause-told
returns-in_ok-edit_refused_text-in-Err-File-clause-told c =
    refused_told c.args.session.now c.edit.new.self c.args.number c.args.edit.now c.in-Err-File.fault c.line_alone-in-Err-File.result (rw c.in-Err-File.field-0-is at c.in-Err-File.ensures.value) c.in-Err-File.ensures.unchanged
    (rw c.line_alone-in-Err-File.ensures.text c.in_ok-edit_refused_text-in-Err-File.ensures) c.line_alone-in-Err-File.ensures.none
