-- How far a session is carried out.
use Rattle.std.specs.Prelude.{◌≡◌, ◌≤◌, ◌+◌, ◌*◌, ◌⊎◌, ℕ, List, length, take, [], ◌∷◌, Bool, true, false, Option, Result, Ok, Err}
use Rattle.gsm_outside.specs.Causes.{Rose}
use Rattle.stage_file.specs.declared.raw.Files.{Files}
use Rattle.cert_files.specs.Certificates.{bytes_in}
use Rattle.gsm_outside.specs.Written.{put_behind}
use Rattle.stock_report.specs.Lines.{lines_of}
use Rattle.stock_report.specs.Sessions.{session_end_row}
use Rattle.edit_script.specs.Steps.{step_of}
use Rattle.edit_reuse.specs.Sessions.{State}
use Rattle.script_run.specs.declared.carry.Count.{Count}
use Rattle.script_run.specs.declared.halt.Halt.{Halt}
use Rattle.script_run.specs.declared.halt.Halt.TheVariants as halt
use Rattle.script_run.specs.Parts.{Part, IsStep}
use Rattle.script_run.specs.Runs.{IsRun, rows_in, cert_list, certs_in, tables_in}
use Rattle.script_run.specs.Halts.{Outside, IsGiven, IsPartGiven, IsPartBegun, IsPartUnput, IsStill, numbered_name}

-- the first rows of a script were carried out, and what they told was given
pub record IsSoFar (old at : State) (rows : List (List (List ℕ))) (name : Option (List ℕ)) (o : Outside) (ticks ticked : ℕ) (count : Count) : Type 0 where
  pub parts : List Part
  pub run : IsRun old 1 rows parts at
  pub given : IsGiven name parts (rows_in parts) o
  pub filled : ticked ≡ ticks + tables_in (certs_in parts)
  pub lines : count.lines ≡ length parts
  pub certs : count.certs ≡ length (certs_in parts)

-- the files have at most two rows more for each of so many edits
pub record AreGrown (old new : Files) (edits : ℕ) : Type 0 where
  pub stages : length new.stages ≤ length old.stages + 2 * edits
  pub tables : length new.tables ≤ length old.tables + 2 * edits
  pub arcs : length new.arcs ≤ length old.arcs + 2 * edits

-- one line more was counted, and its certificate, if there is one
pub record IsCounted (old new : Count) (part : Part) : Type 0 where
  pub lines : new.lines ≡ old.lines + 1
  pub certs : new.certs ≡ old.certs + length (cert_list part.cert)

-- the bytes of the line of a part
abbrev pub line_in : Part → List ℕ
line_in part = lines_of (part.row ∷ [])

-- what carrying out a row gives: its part was given, or giving it was halted, or memory did not suffice before
abbrev pub RowStepCase : State → ℕ → List (List ℕ) → State → Option (List ℕ) → Outside → ℕ → ℕ → Count → Count → Result (Unit {0}) Halt → Type 0
RowStepCase old number row new name o ticks ticked before count (Ok done) =
    (part : Part) × IsStep old number (step_of row) new part × IsPartGiven (numbered_name name (before.certs + 1)) (bytes_in part.cert) (line_in part) o
    × (ticked ≡ ticks + tables_in (cert_list part.cert)) × IsCounted before count part
RowStepCase old number row new name o ticks ticked before count (Err halt.Shelf) =
    (part : Part) × IsStep old number (step_of row) new part × IsPartBegun (numbered_name name (before.certs + 1)) (bytes_in part.cert) o × Rose o.writes o.writes_after
RowStepCase old number row new name o ticks ticked before count (Err halt.Sink) =
    (part : Part) × IsStep old number (step_of row) new part × IsPartUnput (numbered_name name (before.certs + 1)) (bytes_in part.cert) (line_in part) o × Rose o.faults o.faults_after
RowStepCase old number row new name o ticks ticked before count (Err halt.NoMemory) =
    IsStill o
    ⊎ ((part : Part) × IsStep old number (step_of row) new part
    × (IsPartBegun (numbered_name name (before.certs + 1)) (bytes_in part.cert) o ⊎ IsPartUnput (numbered_name name (before.certs + 1)) (bytes_in part.cert) (line_in part) o))

-- what carrying out a row gives, that holds a record or does not: where it holds none, nothing is done
abbrev pub RowCaseBy : Bool → State → ℕ → List (List ℕ) → State → Option (List ℕ) → Outside → ℕ → ℕ → Count → Count → Result (Unit {0}) Halt → Type 0
RowCaseBy true old number row new name o ticks ticked before count result = RowStepCase old number row new name o ticks ticked before count result
RowCaseBy false old number row new name o ticks ticked before count result = (result ≡ Ok tt) × (new ≡ old) × IsStill o × (ticked ≡ ticks) × (count ≡ before)

-- a front of the line behind all others was put
abbrev pub IsEndPart : ℕ → Option (List ℕ) → Option (List ℕ) → ℕ → ℕ → Type 0
IsEndPart lines before after faults faulted = ((n : ℕ) × (after ≡ put_behind (take n (lines_of (session_end_row lines ∷ []))) before)) × (faults ≤ faulted)

-- what putting the line behind all others gives, by what a sink tells and its count of faults, before and after
abbrev pub EndCase : ℕ → Option (List ℕ) → Option (List ℕ) → ℕ → ℕ → Result (Unit {0}) Halt → Type 0
EndCase lines before after faults faulted (Ok done) = (after ≡ put_behind (lines_of (session_end_row lines ∷ [])) before) × (faulted ≡ faults)
EndCase lines before after faults faulted (Err halt.Shelf) = ⊥
EndCase lines before after faults faulted (Err halt.Sink) = IsEndPart lines before after faults faulted × Rose faults faulted
EndCase lines before after faults faulted (Err halt.NoMemory) =
    ((after ≡ before) × (faulted ≡ faults)) ⊎ IsEndPart lines before after faults faulted
