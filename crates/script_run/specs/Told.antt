-- What is told of a row, as bytes.
use Rattle.std.specs.Prelude.{◌≡◌, ℕ, [], ◌∷◌, Result, Ok, Err, ⊤}
use Rattle.service_model.specs.declared.list.NoMemory.{NoMemory}
use Rattle.stock_report.specs.Lines.{lines_of}
use Rattle.edit_script.specs.declared.edit.Step.{Step}
use Rattle.edit_script.specs.declared.edit.EditFault.{EditFault}
use Rattle.edit_reuse.specs.Sessions.{State}
use Rattle.script_run.specs.declared.told.Told.{Told}
use Rattle.script_run.specs.Parts.{Part, IsStep}

-- a part, as bytes
pub record IsToldAs (part : Part) (t : Told) : Type 0 where
  pub text : t.text ≡ lines_of (part.row ∷ [])
  pub cert : t.cert ≡ part.cert

-- what carrying out a step tells
abbrev pub ToldCase : State → ℕ → Result Step EditFault → State → Result Told NoMemory → Type 0
ToldCase old number step new (Ok t) = (part : Part) × IsStep old number step new part × IsToldAs part t
ToldCase old number step new (Err e) = ⊤
