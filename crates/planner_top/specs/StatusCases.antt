-- What the calls give that write and print, by the status.
use Rattle.std.specs.Prelude.{◌≡◌, ◌≤◌, ◌+◌, ℕ, List, [], ◌∷◌, Option, ◌⊎◌}
use Rattle.gsm_outside.specs.Held.{Held}
use Rattle.gsm_outside.specs.Causes.{Rose}
use Rattle.stock_report.specs.Lines.{lines_of}
use Rattle.stock_report.specs.Refusals.{fault_row, write_fault_row}
use Rattle.command_words.specs.declared.file_word.FileWord.{FileWord}
use Rattle.planner_top.specs.declared.answer.Ending.{Ending}
use Rattle.planner_top.specs.declared.status.Status.{Status}
use Rattle.planner_top.specs.declared.answer.Ending.TheVariants as ending
use Rattle.planner_top.specs.declared.status.Status.TheVariants as status
use Rattle.cert_files.specs.Certificates.{put_cert, PutPart}
use Rattle.planner_top.specs.Runs.{Run, Follows, PartFollows, IsTold, IsLater}
use Rattle.planner_top.specs.Endings.{status_of, Answered}
use Rattle.planner_top.specs.Faults.{FailedRead, PrintsFront, IsLeft, FailedWrite}
use Rattle.edit_reuse.specs.Sessions.{State}
use Rattle.script_run.specs.declared.halt.Halt.TheVariants as halt
use Rattle.script_run.specs.Halts.{Outside, outside_of, IsCarriedOut, IsHalted}
use Rattle.planner_top.specs.Sessions.{IsCarried, IsCutByWrite, IsCutByMemory}

-- what a status says of a run
abbrev pub StatusCase : Run → Status → Type 0
StatusCase r status.Done = Answered r ending.Done ⊎ (IsLater r × IsCarried r)
StatusCase r status.Infeasible = Answered r ending.Infeasible
StatusCase r status.Spent = Answered r ending.Spent
StatusCase r status.Words = Answered r ending.Words
StatusCase r status.Refused = Answered r ending.Refused
StatusCase r status.TooLong = Answered r ending.TooLong
StatusCase r status.NotAccepted = Answered r ending.NotAccepted
StatusCase r status.NotFeasible = Answered r ending.NotFeasible
StatusCase r status.ReadFault = (r.reads ≤ r.reads_after) × FailedRead r
StatusCase r status.WriteFault = IsLater r × ((FailedWrite r × PrintsFront r) ⊎ IsCutByWrite r)
StatusCase r status.NoMemory = IsLater r × (IsLeft r ⊎ IsCutByMemory r)

-- what the status of a run whose read failed says of its output
abbrev pub FaultCase : FileWord → Option (List ℕ) → Option (List ℕ) → ℕ → ℕ → Status → Type 0
FaultCase word before after faults faulted status.ReadFault = (faulted ≡ faults) × Follows before (lines_of (fault_row word ∷ [])) after
FaultCase word before after faults faulted status.WriteFault =
    (faults ≤ faulted) × Rose faults faulted × PartFollows before (lines_of (fault_row word ∷ [])) after
FaultCase word before after faults faulted status.NoMemory =
    (faults ≤ faulted) × ((after ≡ before) ⊎ PartFollows before (lines_of (fault_row word ∷ [])) after)
FaultCase word before after faults faulted _ = ⊥

-- an answer that is given to a shelf and a sink: its ending and its text, the name that is asked for and the certificate's bytes; what the
-- shelf tells, its count of failed writes, what the sink tells and its count of faults, before and after
pub record Given : Type 0 where
  pub ending : Ending
  pub text : List ℕ
  pub name : Option (List ℕ)
  pub cert : Option (List ℕ)
  pub held : Option Held
  pub held_after : Option Held
  pub writes : ℕ
  pub writes_after : ℕ
  pub written : Option (List ℕ)
  pub written_after : Option (List ℕ)
  pub faults : ℕ
  pub faults_after : ℕ

-- an answer that is given, by what is seen of it
abbrev pub given_of : Ending → List ℕ → Option (List ℕ) → Option (List ℕ) → Option Held → Option Held → ℕ → ℕ → Option (List ℕ) → Option (List ℕ) → ℕ → ℕ → Given
given_of ending text name cert held held_after writes writes_after written written_after faults faults_after = record {
  ending = ending;
  text = text;
  name = name;
  cert = cert;
  held = held;
  held_after = held_after;
  writes = writes;
  writes_after = writes_after;
  written = written;
  written_after = written_after;
  faults = faults;
  faults_after = faults_after;
}

-- the certificate was written, and the front of the text was printed
pub record PutsFront (g : Given) : Type 0 where
  pub writes : g.writes_after ≡ g.writes
  pub faults : g.faults ≤ g.faults_after
  pub held : g.held_after ≡ put_cert g.name g.cert g.held
  pub printed : PartFollows g.written g.text g.written_after

-- a write of the certificate failed, and the front of the line that says so was printed
pub record TellsFront (g : Given) : Type 0 where
  pub later : g.writes ≤ g.writes_after
  pub rose : Rose g.writes g.writes_after
  pub faults : g.faults ≤ g.faults_after
  pub held : PutPart g.name g.cert g.held g.held_after
  pub printed : PartFollows g.written (lines_of (write_fault_row ∷ [])) g.written_after

-- nothing was printed, and the certificate was perhaps begun
pub record PutsPart (g : Given) : Type 0 where
  pub later : g.writes ≤ g.writes_after
  pub faults : g.faults_after ≡ g.faults
  pub held : PutPart g.name g.cert g.held g.held_after
  pub printed : g.written_after ≡ g.written

-- the certificate was written and the text was printed
pub record PutsAll (g : Given) : Type 0 where
  pub writes : g.writes_after ≡ g.writes
  pub faults : g.faults_after ≡ g.faults
  pub held : g.held_after ≡ put_cert g.name g.cert g.held
  pub printed : Follows g.written g.text g.written_after

-- what the status of an answer that is given says
abbrev pub GivenCase : Given → Status → Type 0
GivenCase g status.WriteFault =
    (PutsFront g × Rose g.faults g.faults_after)
    ⊎ (TellsFront g × (Rose g.faults g.faults_after ⊎ IsTold g.written g.written_after g.faults g.faults_after))
GivenCase g status.NoMemory = PutsFront g ⊎ TellsFront g ⊎ PutsPart g
GivenCase g s = (s ≡ status_of g.ending) × PutsAll g

-- what the status says of a run that could not write its certificate, by what was printed
abbrev pub ToldCase : Option (List ℕ) → Option (List ℕ) → ℕ → ℕ → Status → Type 0
ToldCase before after faults faulted status.WriteFault =
    (faults ≤ faulted) × PartFollows before (lines_of (write_fault_row ∷ [])) after × (Rose faults faulted ⊎ IsTold before after faults faulted)
ToldCase before after faults faulted status.NoMemory = (faults ≤ faulted) × PartFollows before (lines_of (write_fault_row ∷ [])) after
ToldCase before after faults faulted _ = ⊥

-- a session was halted for a certificate that could not be written, and what was then printed of that says the status
abbrev pub IsHaltedBefore : State → List (List (List ℕ)) → Option (List ℕ) → Outside → Status → Type 0
IsHaltedBefore s script name o t =
    (written : Option (List ℕ)) × IsHalted halt.Shelf s script name (outside_of o.held o.held_after o.writes o.writes_after o.written written o.faults o.faults)
    × ToldCase written o.written_after o.faults o.faults_after t

-- what the status says of a script that was carried out, with the count of filled tables before and after
abbrev pub CarriedCase : State → List (List (List ℕ)) → Option (List ℕ) → Outside → ℕ → ℕ → Status → Type 0
CarriedCase s script name o ticks ticked status.Done = (last : State) × (filled : ℕ) × (ticked ≡ ticks + filled) × IsCarriedOut s last script name o filled
CarriedCase s script name o ticks ticked status.WriteFault = IsHalted halt.Sink s script name o ⊎ IsHaltedBefore s script name o status.WriteFault
CarriedCase s script name o ticks ticked status.NoMemory = IsHalted halt.NoMemory s script name o ⊎ IsHaltedBefore s script name o status.NoMemory
CarriedCase s script name o ticks ticked _ = ⊥
