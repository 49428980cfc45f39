-- What a session knows of its files.
use Rattle.std.proofs.Common.{◌≡◌, ℕ, [], ◌∷◌, Option, Some, None, Result, Ok, Err, refl, sym, subst, arith}
use Rattle.std.specs.Prelude.{IsErrAnd}
use Rattle.stage_file.specs.declared.raw.Files.{Files}
use Rattle.stage_file.specs.Raw.{AreFiles, raw_fault}
use Rattle.stage_file.specs.Stages.{stage_file_fault}
use Rattle.stage_file.specs.StageRecords.{stage_rows_of}
use Rattle.stage_file.specs.Tables.{table_file_fault}
use Rattle.stage_file.specs.Arcs.{arc_file_fault, names_of}
use Rattle.stage_file.proofs.FaultFacts.{first_of_none}
use Rattle.edit_script.specs.declared.edit.Edit.{Edit}
use Rattle.edit_script.specs.Steps.{IsWhole}
use Rattle.edit_script.specs.Edited.{HasColumn, edited}
use Rattle.stage_file.specs.declared.fault.ReadFault.{ReadFault}
use Rattle.stage_file.specs.declared.fault.ReadFault.TheVariants.{Fault, NoMemory}
use Rattle.edit_script.specs.declared.edit.ApplyFault.{ApplyFault}
use Rattle.edit_script.specs.declared.edit.ApplyFault.TheVariants as apply
use Rattle.edit_script.specs.Edited.{Gives}
use Rattle.edit_reuse.specs.declared.budget.Budgeted.{Budgeted}
use Rattle.edit_reuse.specs.declared.fault.SessionFault.{SessionFault}
use Rattle.edit_reuse.specs.declared.fault.SessionFault.TheVariants as session
use Rattle.edit_reuse.specs.Refusals.{BudgetedCase}
use Rattle.edit_reuse.specs.Sessions.{State, state_of, IsSession, NewCase}
use Rattle.edit_reuse.specs.Edits.{HasRoom, IsShort, GrowByTwo, BehindCase, EditCase, fault_by_apply, fault_by_rule}
use Rattle.edit_reuse.proofs.BudgetFacts.{files_hold}
use Rattle.edit_reuse.proofs.StageColumns.{has_column}
use Rattle.edit_reuse.proofs.Countable.{edited_countable}
use Rattle.edit_reuse.proofs.Growth.{edited_grows}

stage_holds : (horizon : ℕ) (files : Files) → raw_fault horizon files ≡ None → stage_file_fault horizon files.stages ≡ None
stage_holds horizon files none =
    (first_of_none (stage_file_fault horizon files.stages ∷ table_file_fault files.tables ∷ arc_file_fault (names_of (stage_rows_of horizon files.stages)) files.arcs ∷ []) none).0

-- an edit that is whole can be made on its files
pub session_column : (s : State) (e : Edit) → IsSession s → IsWhole e → HasColumn s.files e
session_column s e is whole = has_column s.horizon s.files e (stage_holds s.horizon s.files (files_hold s.horizon s.asked s.files s.made is.budgeted)) whole

-- the edited files can be numbered
pub session_countable : (s : State) (e : Edit) (new : Files) → IsSession s → HasRoom s.files → IsShort e → edited s.files e ≡ Some new → AreFiles new
session_countable s e new is room short made = edited_countable s.files new e is.countable room short made

-- a session begins, or the first rule that fails on its files is told
pub new_refused : (horizon : ℕ) (asked : Option ℕ) (files : Files) (e : ReadFault) → BudgetedCase horizon asked files (Err e) → NewCase horizon asked files (Err e)
new_refused horizon asked files (Fault f) case = case
new_refused horizon asked files NoMemory case = tt

-- an edit that cannot be made is refused
pub apply_refused : (s : State) (e : Edit) (fault : ApplyFault) → Gives (edited s.files e) (Err fault) → BehindCase s e (Err (fault_by_apply fault))
apply_refused s e apply.Unknown case = case
apply_refused s e apply.NoMemory case = tt

-- so is one behind which a rule fails
pub rule_refused : (s : State) (e : Edit) (files : Files) (fault : ReadFault) → edited s.files e ≡ Some files → BudgetedCase s.horizon s.asked files (Err fault) → BehindCase s e (Err (fault_by_rule fault))
rule_refused s e files (Fault f) made case = (files, made, case)
rule_refused s e files NoMemory made case = tt

-- so is a result that says so
pub rule_told : (s : State) (e : Edit) (files : Files) (fault : ReadFault) (r : Result (Files × Budgeted) SessionFault) → edited s.files e ≡ Some files → BudgetedCase s.horizon s.asked files (Err fault)
    → IsErrAnd r (λ told. told ≡ fault_by_rule fault) → BehindCase s e r
rule_told s e files fault (Ok made) is case told = absurd told
rule_told s e files fault (Err told) is case same = subst (λ (f : SessionFault). BehindCase s e (Err f)) (sym same) (rule_refused s e files fault is case)

-- a refused edit of a session is one that cannot be made
pub edit_refused : (s : State) (e : Edit) (fault : SessionFault) → BehindCase s e (Err fault) → EditCase s e s (Err fault)
edit_refused s e session.Unknown case = case
edit_refused s e (session.File f) case = case
edit_refused s e session.NoMemory case = tt

-- the same session has not grown
pub not_grown : (files : Files) → GrowByTwo files files
not_grown files = record { stages = omega arith; tables = omega arith; arcs = omega arith }

-- the files behind an edit make a session
pub session_behind : (s : State) (e : Edit) (files : Files) (made : Budgeted) → IsSession s → BehindCase s e (Ok (files, made)) → IsSession (state_of files s.horizon s.asked made)
session_behind s e files made is case = record { horizon = is.horizon; asked = is.asked; countable = case.1; budgeted = case.2 }

pub edit_done : (s : State) (e : Edit) (files : Files) (made : Budgeted) → IsSession s → BehindCase s e (Ok (files, made)) → EditCase s e (state_of files s.horizon s.asked made) (Ok tt)
edit_done s e files made is case = (files, case.0, record { session = session_behind s e files made is case; files_are = refl; horizon_is = refl; asked_is = refl })

pub edit_grows : (s : State) (e : Edit) (files : Files) (made : Budgeted) → BehindCase s e (Ok (files, made)) → GrowByTwo s.files files
edit_grows s e files made case = edited_grows s.files files e case.0
