-- A step that is carried out, by what each of its calls gives.
use Rattle.std.proofs.Common.{◌≡◌, ℕ, [], ◌∷◌, List, length, Option, Some, None, Result, Ok, Err, refl, sym, ap, ◌∙◌, subst}
use Rattle.std.specs.Option.{MatchOption}
use Rattle.std.specs.Prelude.{IfSome, IfOk}
use Rattle.service_model.specs.Plans.{Feasible}
use Rattle.service_model.specs.declared.list.NoMemory.{NoMemory}
use Rattle.service_model.specs.Net.{Net}
use Rattle.service_model.specs.declared.cert.Cert.{Cert}
use Rattle.service_model.specs.Networks.{IsNetwork}
use Rattle.stage_file.specs.declared.raw.Files.{Files}
use Rattle.stage_file.specs.declared.fault.FileFault.{FileFault}
use Rattle.cert_files.proofs.WrittenFacts.{cert_accepted}
use Rattle.cert_files.proofs.FullFacts.{own_full}
use Rattle.cert_files.proofs.VerdictFacts.{plan_feasible}
use Rattle.stock_report.specs.Lines.{lines_of}
use Rattle.stock_report.specs.Sessions.{edit_done_row, edit_fault_row, edit_refused_row, session_answer_row}
use Rattle.edit_script.specs.declared.edit.Edit.{Edit}
use Rattle.edit_script.specs.declared.edit.Step.{Step}
use Rattle.edit_script.specs.declared.edit.Step.TheVariants.{Solve, Change}
use Rattle.edit_script.specs.declared.edit.EditFault.{EditFault}
use Rattle.edit_script.specs.declared.edit.EditFault.TheVariants.{Word, Count}
use Rattle.edit_script.specs.Edited.{edited}
use Rattle.edit_reuse.specs.declared.fault.SessionFault.TheVariants as session
use Rattle.edit_reuse.specs.Edits.{EditCase}
use Rattle.edit_reuse.specs.Refusals.{IsFirstRefused}
use Rattle.edit_reuse.specs.Sessions.{State, network_of, IsOver}
use Rattle.edit_reuse.specs.Answers.{IsAnswer}
use Rattle.script_run.specs.declared.edit_rules.TheConstants.{UNKNOWN_WORD, FIELD_NUMBER, UNKNOWN_NAME}
use Rattle.script_run.specs.declared.told.Told.{Told}
use Rattle.script_run.specs.Told.{IsToldAs, ToldCase}
use Rattle.script_run.specs.Parts.{Part, line_alone, IsShown, answer_part, IsEditedTo, IsStep}

-- the answer of a session shows what is told of it
pub answer_shown : (s : State) (c : Cert) → IsNetwork (network_of s) → IsAnswer s c → IsShown s c
answer_shown s c valid is = record {
  answer = is;
  accepted = cert_accepted (network_of s) is.forest s.made.budget c valid is.own is.short;
  full = own_full (network_of s) is.forest s.made.budget c is.own;
}

-- its plan is feasible
pub answer_feasible : (s : State) (c : Cert) → IsAnswer s c → IfSome c.verdict.plan (Feasible (network_of s))
answer_feasible s c is = plan_feasible (network_of s) c.verdict is.true_verdict

abbrev to_step : Edit → Result Step EditFault
to_step edit = Ok (Change edit)

-- where what is named has no record
unknown_by : (old : State) (number : ℕ) (made : Option Files) → made ≡ None
    → MatchOption made ((old ≡ old) × (line_alone (edit_fault_row number UNKNOWN_NAME) ≡ line_alone (edit_fault_row number UNKNOWN_NAME))) (λ files. IsEditedTo old number files old (line_alone (edit_fault_row number UNKNOWN_NAME)))
unknown_by old number made none = rw none (refl, refl)

pub edit_unknown : (old : State) (number : ℕ) (edit : Edit) → edited old.files edit ≡ None → IsStep old number (to_step edit) old (line_alone (edit_fault_row number UNKNOWN_NAME))
edit_unknown old number edit none = unknown_by old number (edited old.files edit) none

-- where there are files behind the edit
edited_by : (old new : State) (number : ℕ) (made : Option Files) (files : Files) (part : Part) → made ≡ Some files → IsEditedTo old number files new part
    → MatchOption made ((new ≡ old) × (part ≡ line_alone (edit_fault_row number UNKNOWN_NAME))) (λ files. IsEditedTo old number files new part)
edited_by old new number made files part some is = rw some is

-- a rule fails on them
pub edit_refused : (old : State) (number : ℕ) (edit : Edit) (files : Files) (f : FileFault) → edited old.files edit ≡ Some files → IsFirstRefused old.horizon old.asked files (Some f)
    → IsStep old number (to_step edit) old (line_alone (edit_refused_row number f))
edit_refused old number edit files f some first = edited_by old old number (edited old.files edit) files (line_alone (edit_refused_row number f)) some (Some f, first, (refl, refl))

-- none does
pub edit_made : (old new : State) (number : ℕ) (edit : Edit) (files : Files) → edited old.files edit ≡ Some files → IsOver old.horizon old.asked files new
    → IsStep old number (to_step edit) new (line_alone (edit_done_row number))
edit_made old new number edit files some over =
    let holds = over.session.budgeted.holds in
    edited_by old new number (edited old.files edit) files (line_alone (edit_done_row number)) some (
      None,
      subst (λ (x : Files). IsFirstRefused old.horizon old.asked x None) over.files_are
          (subst (λ (x : ℕ). IsFirstRefused x old.asked new.files None) over.horizon_is
          (subst (λ (x : Option ℕ). IsFirstRefused new.horizon x new.files None) over.asked_is holds)),
      (over, refl),
    )

-- ---- the same as it is told
alone : (row : List (List ℕ)) (t : Told) → t.text ≡ lines_of (row ∷ []) → t.cert ≡ None → IsToldAs (line_alone row) t
alone row t text cert = record { text = text; cert = cert }

pub done_told : (old new : State) (number : ℕ) (edit : Edit) (t : Told) → EditCase old edit new (Ok tt) → t.text ≡ lines_of (edit_done_row number ∷ []) → t.cert ≡ None → ToldCase old number (to_step edit) new (Ok t)
done_told old new number edit t case text cert = (line_alone (edit_done_row number), edit_made old new number edit case.0 case.1 case.2, alone (edit_done_row number) t text cert)

pub unknown_told : (old new : State) (number : ℕ) (edit : Edit) (t : Told) → EditCase old edit new (Err session.Unknown) → new ≡ old → t.text ≡ lines_of (edit_fault_row number UNKNOWN_NAME ∷ []) → t.cert ≡ None
    → ToldCase old number (to_step edit) new (Ok t)
unknown_told old new number edit t case same text cert =
    subst (λ (x : State). ToldCase old number (to_step edit) x (Ok t)) (sym same)
    (line_alone (edit_fault_row number UNKNOWN_NAME), edit_unknown old number edit case, alone (edit_fault_row number UNKNOWN_NAME) t text cert)

pub refused_told : (old new : State) (number : ℕ) (edit : Edit) (f : FileFault) (t : Told) → EditCase old edit new (Err (session.File f)) → new ≡ old → t.text ≡ lines_of (edit_refused_row number f ∷ []) → t.cert ≡ None
    → ToldCase old number (to_step edit) new (Ok t)
refused_told old new number edit f t case same text cert =
    subst (λ (x : State). ToldCase old number (to_step edit) x (Ok t)) (sym same)
    (line_alone (edit_refused_row number f), edit_refused old number edit case.0 f case.1 case.2, alone (edit_refused_row number f) t text cert)

-- a row that says no step
pub word_told : (old : State) (number : ℕ) (step : Result Step EditFault) (r : Result Told NoMemory) → step ≡ Err Word → IfOk r (λ t. t.text ≡ lines_of (edit_fault_row number UNKNOWN_WORD ∷ [])) → IfOk r (λ t. t.cert ≡ None)
    → ToldCase old number step old r
word_told old number step (Ok t) is text cert = rw is (line_alone (edit_fault_row number UNKNOWN_WORD), (refl, refl), alone (edit_fault_row number UNKNOWN_WORD) t text cert)
word_told old number step (Err e) is text cert = tt

pub count_told : (old : State) (number : ℕ) (step : Result Step EditFault) (r : Result Told NoMemory) → step ≡ Err Count → IfOk r (λ t. t.text ≡ lines_of (edit_fault_row number FIELD_NUMBER ∷ [])) → IfOk r (λ t. t.cert ≡ None)
    → ToldCase old number step old r
count_told old number step (Ok t) is text cert = rw is (line_alone (edit_fault_row number FIELD_NUMBER), (refl, refl), alone (edit_fault_row number FIELD_NUMBER) t text cert)
count_told old number step (Err e) is text cert = tt

-- an answer
pub answer_told : (old new : State) (number : ℕ) (c : Cert) (n : Net) (ranges filled : ℕ) (t : Told) → IsAnswer old c → new ≡ old → n ≡ network_of new → IsNetwork n → ranges ≡ length c.nodes → filled ≡ length c.tables
    → t.text ≡ lines_of (session_answer_row number n c.verdict ranges filled ∷ []) → t.cert ≡ Some c → ToldCase old number (Ok Solve) new (Ok t)
answer_told old new number c n ranges filled t is same network valid nodes tables text cert =
    let here : n ≡ network_of old = network ∙ ap network_of same in
    let row : session_answer_row number n c.verdict ranges filled ≡ session_answer_row number (network_of old) c.verdict (length c.nodes) (length c.tables) =
    ap (λ (x : Net). session_answer_row number x c.verdict ranges filled) here
    ∙ ap (λ (x : ℕ). session_answer_row number (network_of old) c.verdict x filled) nodes
    ∙ ap (λ (x : ℕ). session_answer_row number (network_of old) c.verdict (length c.nodes) x) tables in (
      answer_part old number c,
      (same, (c, answer_shown old c (subst IsNetwork here valid) is, refl)),
      record { text = text ∙ ap (λ (x : List (List ℕ)). lines_of (x ∷ [])) row; cert = cert },
    )
