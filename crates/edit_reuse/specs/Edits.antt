-- What an edit leaves of a session.
use Rattle.std.specs.Prelude.{◌≡◌, ℕ, ◌+◌, ◌<◌, ◌≤◌, ◌^◌, List, length, Some, None, Result, Ok, Err, ⊤}
use Rattle.stage_file.specs.declared.raw.Files.{Files}
use Rattle.stage_file.specs.declared.fault.ReadFault.{ReadFault}
use Rattle.stage_file.specs.declared.fault.ReadFault.TheVariants as read
use Rattle.stage_file.specs.Raw.{AreFiles}
use Rattle.edit_script.specs.declared.edit.Edit.{Edit}
use Rattle.edit_script.specs.declared.edit.Edit.TheVariants as edit
use Rattle.edit_script.specs.declared.edit.ApplyFault.{ApplyFault}
use Rattle.edit_script.specs.declared.edit.ApplyFault.TheVariants as apply
use Rattle.edit_script.specs.Edited.{edited}
use Rattle.edit_reuse.specs.declared.budget.Budgeted.{Budgeted}
use Rattle.edit_reuse.specs.declared.fault.SessionFault.{SessionFault}
use Rattle.edit_reuse.specs.declared.fault.SessionFault.TheVariants.{Unknown, File, NoMemory}
use Rattle.edit_reuse.specs.Refusals.{IsFirstRefused, AreBudgeted}
use Rattle.edit_reuse.specs.Sessions.{State, IsOver}

-- why a session refuses an edit that cannot be made
abbrev pub fault_by_apply : ApplyFault → SessionFault
fault_by_apply apply.Unknown = Unknown
fault_by_apply apply.NoMemory = NoMemory

-- why a session refuses files
abbrev pub fault_by_rule : ReadFault → SessionFault
fault_by_rule (read.Fault fault) = File fault
fault_by_rule read.NoMemory = NoMemory

-- two rows more can be numbered
abbrev pub IsRoomy : List (List (List ℕ)) → Type 0
IsRoomy rows = length rows + 2 < 2 ^ 32

-- two rows more of each file can be numbered
pub record HasRoom (files : Files) : Type 0 where
  pub stages : IsRoomy files.stages
  pub tables : IsRoomy files.tables
  pub arcs : IsRoomy files.arcs

-- a file has at most two rows more than before
pub record GrowByTwo (old new : Files) : Type 0 where
  pub stages : length new.stages ≤ length old.stages + 2
  pub tables : length new.tables ≤ length old.tables + 2
  pub arcs : length new.arcs ≤ length old.arcs + 2

-- the fields of an edit's row can be numbered
abbrev pub IsShort : Edit → Type 0
IsShort (edit.AddStage row) = length row < 2 ^ 32
IsShort (edit.SetTable row) = length row < 2 ^ 32
IsShort (edit.AddTable row) = length row < 2 ^ 32
IsShort (edit.SetArc row) = length row < 2 ^ 32
IsShort (edit.AddArc row) = length row < 2 ^ 32
IsShort _ = ⊤

-- what a call gives that makes the files behind an edit: the files with their network and its budget, or why there are none
abbrev pub BehindCase : State → Edit → Result (Files × Budgeted) SessionFault → Type 0
BehindCase old edit (Ok made) = (edited old.files edit ≡ Some made.0) × AreFiles made.0 × AreBudgeted old.horizon old.asked made.0 made.1
BehindCase old edit (Err Unknown) = edited old.files edit ≡ None
BehindCase old edit (Err (File fault)) =
    (files : Files) × (edited old.files edit ≡ Some files) × IsFirstRefused old.horizon old.asked files (Some fault)
BehindCase old edit (Err NoMemory) = ⊤

-- what an edit gives: a session over the edited files, or that what it names has no record, or the first rule that fails on them
abbrev pub EditCase : State → Edit → State → Result (Unit {0}) SessionFault → Type 0
EditCase old edit new (Ok done) = (files : Files) × (edited old.files edit ≡ Some files) × IsOver old.horizon old.asked files new
EditCase old edit new (Err Unknown) = edited old.files edit ≡ None
EditCase old edit new (Err (File fault)) =
    (files : Files) × (edited old.files edit ≡ Some files) × IsFirstRefused old.horizon old.asked files (Some fault)
EditCase old edit new (Err NoMemory) = ⊤
