-- What a row of a script does to a session, and what is printed of it.
use Rattle.std.specs.Prelude.{◌≡◌, ◌<◌, ◌+◌, ℕ, List, [], ◌∷◌, length, Bool, true, false, Option, Some, None, MatchOption, Result, Ok, Err}
use Rattle.service_model.specs.declared.cert.Cert.{Cert}
use Rattle.service_model.specs.declared.cert.Outcome.TheVariants.{Spent}
use Rattle.stage_file.specs.declared.raw.Files.{Files}
use Rattle.stage_file.specs.declared.fault.FileFault.{FileFault}
use Rattle.cert_check.specs.Bytes.{IsAcceptedBytes}
use Rattle.cert_files.specs.Certificates.{cert_bytes}
use Rattle.stock_report.specs.Sessions.{edit_done_row, edit_fault_row, edit_refused_row, session_answer_row}
use Rattle.edit_script.specs.declared.edit.Step.{Step}
use Rattle.edit_script.specs.declared.edit.Step.TheVariants.{Solve, Change}
use Rattle.edit_script.specs.declared.edit.EditFault.{EditFault}
use Rattle.edit_script.specs.declared.edit.EditFault.TheVariants.{Word, Count, NoMemory}
use Rattle.edit_script.specs.Steps.{step_of}
use Rattle.edit_script.specs.Edited.{edited, holds_record}
use Rattle.edit_reuse.specs.Refusals.{IsFirstRefused}
use Rattle.edit_reuse.specs.Sessions.{State, network_of, IsOver}
use Rattle.edit_reuse.specs.Answers.{IsAnswer}
use Rattle.script_run.specs.declared.edit_rules.TheConstants.{UNKNOWN_WORD, FIELD_NUMBER, UNKNOWN_NAME}

-- what is told of a row: its line, and the certificate that is written before it, if there is one
pub record Part : Type 0 where
  pub row : List (List ℕ)
  pub cert : Option Cert

-- a line alone
abbrev pub line_alone : List (List ℕ) → Part
line_alone row = record { row = row; cert = None }

-- the answer of a session as it stands: the certificate of a search over its network, whose lines are accepted with its verdict; the
-- budget is spent only where two further ranges would pass it
pub record IsShown (s : State) (c : Cert) : Type 0 where
  pub answer : IsAnswer s c
  pub accepted : IsAcceptedBytes (network_of s) (cert_bytes c) c.verdict
  pub full : c.verdict.outcome ≡ Spent → s.made.budget < length c.nodes + 2

-- the line of an answer: its verdict, its ranges and the tables that were filled for it
abbrev pub answer_part : State → ℕ → Cert → Part
answer_part s number c = record {
  row = session_answer_row number (network_of s) c.verdict (length c.nodes) (length c.tables);
  cert = Some c;
}

-- files behind an edit: a session over them, or no change and the first rule that fails on them
abbrev pub IsEditedTo : State → ℕ → Files → State → Part → Type 0
IsEditedTo old number files new part =
    (fault : Option FileFault) × IsFirstRefused old.horizon old.asked files fault
    × MatchOption fault (IsOver old.horizon old.asked files new × (part ≡ line_alone (edit_done_row number)))
    (λ f. (new ≡ old) × (part ≡ line_alone (edit_refused_row number f)))

-- a step is carried out: an answer is given, or an edit is made or refused; a row that says no step changes nothing
abbrev pub IsStep : State → ℕ → Result Step EditFault → State → Part → Type 0
IsStep old number (Ok Solve) new part = (new ≡ old) × ((c : Cert) × IsShown old c × (part ≡ answer_part old number c))
IsStep old number (Ok (Change edit)) new part =
    MatchOption (edited old.files edit) ((new ≡ old) × (part ≡ line_alone (edit_fault_row number UNKNOWN_NAME))) (λ files. IsEditedTo old number files new part)
IsStep old number (Err Word) new part = (new ≡ old) × (part ≡ line_alone (edit_fault_row number UNKNOWN_WORD))
IsStep old number (Err Count) new part = (new ≡ old) × (part ≡ line_alone (edit_fault_row number FIELD_NUMBER))
IsStep old number (Err NoMemory) new part = ⊥

-- a row that holds a record is a step; one that holds none is passed over
abbrev pub RowCase : Bool → State → ℕ → List (List ℕ) → State → List Part → Type 0
RowCase true old number row new parts = (part : Part) × IsStep old number (step_of row) new part × (parts ≡ part ∷ [])
RowCase false old number row new parts = (new ≡ old) × (parts ≡ [])

-- a row is carried out
abbrev pub IsRowDone : State → ℕ → List (List ℕ) → State → List Part → Type 0
IsRowDone old number row new parts = RowCase (holds_record row) old number row new parts
