-- What a session has.
use Rattle.std.specs.Prelude.{◌≡◌, ℕ, ◌≤◌, Option, Some, Result, Ok, Err, ⊤}
use Rattle.service_model.specs.declared.limits.TheConstants.{MAX_HORIZON}
use Rattle.service_model.specs.Net.{Net}
use Rattle.stage_file.specs.declared.raw.Files.{Files}
use Rattle.stage_file.specs.declared.fault.ReadFault.{ReadFault}
use Rattle.stage_file.specs.declared.fault.ReadFault.TheVariants.{Fault, NoMemory}
use Rattle.stage_file.specs.Raw.{AreFiles}
use Rattle.edit_reuse.specs.declared.budget.Budgeted.{Budgeted}
use Rattle.edit_reuse.specs.Refusals.{IsAsked, IsFirstRefused, AreBudgeted}

-- what a session has: files, a horizon and the ranges that are asked, and the network of the files with its budget
pub record State : Type 0 where
  pub files : Files
  pub horizon : ℕ
  pub asked : Option ℕ
  pub made : Budgeted

-- a session by its parts
abbrev pub state_of : Files → ℕ → Option ℕ → Budgeted → State
state_of files horizon asked made = record { files = files; horizon = horizon; asked = asked; made = made }

-- the network of a session
abbrev pub network_of : State → Net
network_of s = s.made.checked.network

-- no rule fails on the files of a session, and its network is theirs
pub record IsSession (s : State) : Type 0 where
  pub horizon : s.horizon ≤ MAX_HORIZON
  pub asked : IsAsked s.asked
  pub countable : AreFiles s.files
  pub budgeted : AreBudgeted s.horizon s.asked s.files s.made

-- a session over these files
pub record IsOver (horizon : ℕ) (asked : Option ℕ) (files : Files) (s : State) : Type 0 where
  pub session : IsSession s
  pub files_are : s.files ≡ files
  pub horizon_is : s.horizon ≡ horizon
  pub asked_is : s.asked ≡ asked

-- what a call gives that begins a session: it, or the first rule that fails on the files
abbrev pub NewCase : ℕ → Option ℕ → Files → Result State ReadFault → Type 0
NewCase horizon asked files (Ok s) = IsOver horizon asked files s
NewCase horizon asked files (Err (Fault f)) = IsFirstRefused horizon asked files (Some f)
NewCase horizon asked files (Err NoMemory) = ⊤
