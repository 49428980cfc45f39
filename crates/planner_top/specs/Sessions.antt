-- What is seen of a run whose words ask for a session.
use Rattle.std.specs.Prelude.{◌≡◌, ◌+◌, ℕ, List, [], ◌∷◌, Option, Ok, ◌⊎◌}
use Rattle.gsm_outside.specs.Held.{Held}
use Rattle.gsm_outside.specs.Causes.{Rose}
use Rattle.command_words.specs.Asked.{Asked, asked_of, cert_name}
use Rattle.command_words.specs.declared.command.Command.TheVariants.{Session}
use Rattle.stock_report.specs.Lines.{lines_of}
use Rattle.stock_report.specs.Refusals.{write_fault_row}
use Rattle.cert_files.specs.Certificates.{KeepsOthers}
use Rattle.edit_reuse.specs.Sessions.{State}
use Rattle.script_run.specs.declared.halt.Halt.{Halt}
use Rattle.script_run.specs.declared.halt.Halt.TheVariants as halt
use Rattle.script_run.specs.Runs.{KeepsUnnumbered}
use Rattle.script_run.specs.Halts.{Outside, outside_of, IsCarriedOut, IsHalted}
use Rattle.planner_top.specs.declared.task.Task.TheVariants as task
use Rattle.planner_top.specs.Answers.{IsProblem}
use Rattle.planner_top.specs.Runs.{Run, PartFollows, IsTold}

-- the words ask for a session
abbrev pub AsksSession : List (List ℕ) → Type 0
AsksSession words = (q : Asked) × (asked_of words ≡ Ok q) × (q.command ≡ Session)

-- the words and files ask for a session, with this script
abbrev pub IsSessionOf : List (List ℕ) → Option Held → State → List (List (List ℕ)) → Type 0
IsSessionOf words held s script = AsksSession words × IsProblem words held (Ok (task.Session s script))

-- what is held stays, but perhaps for the certificate that the words ask for, or for those of a session's answers
abbrev pub KeepsNames : List (List ℕ) → Option Held → Option Held → Type 0
KeepsNames words old new = KeepsOthers (cert_name words) old new ⊎ (AsksSession words × KeepsUnnumbered (cert_name words) old new)

-- what is seen of the shelf and the sink of a run
abbrev pub outside_in : Run → Outside
outside_in r = outside_of r.held r.held_after r.writes r.writes_after r.written r.written_after r.faults r.faults_after

-- a session was carried out to the end of its script: each answer's certificate is on the shelf where the words ask for it, and its lines
-- follow what was written
abbrev pub IsCarried : Run → Type 0
IsCarried r =
    (r.reads_after ≡ r.reads)
    × ((s : State) × (script : List (List (List ℕ))) × IsSessionOf r.words r.held s script
    × ((last : State) × (filled : ℕ) × (r.ticks_after ≡ r.ticks + filled) × IsCarriedOut s last script (cert_name r.words) (outside_in r) filled))

-- a session was halted, when the sink told so much
abbrev pub IsHaltedAt : Run → Halt → Option (List ℕ) → ℕ → Type 0
IsHaltedAt r h written faults =
    (r.reads_after ≡ r.reads)
    × ((s : State) × (script : List (List (List ℕ))) × IsSessionOf r.words r.held s script
    × IsHalted h s script (cert_name r.words) (outside_of r.held r.held_after r.writes r.writes_after r.written written r.faults faults))

-- a session was halted for a write that failed: one of its output, or one of a certificate, which the line behind its lines then says
abbrev pub IsCutByWrite : Run → Type 0
IsCutByWrite r =
    IsHaltedAt r halt.Sink r.written_after r.faults_after
    ⊎ ((written : Option (List ℕ)) × IsHaltedAt r halt.Shelf written r.faults
    × PartFollows written (lines_of (write_fault_row ∷ [])) r.written_after
    × (Rose r.faults r.faults_after ⊎ IsTold written r.written_after r.faults r.faults_after))

-- a session was halted for want of memory, perhaps in the line that says that a certificate could not be written
abbrev pub IsCutByMemory : Run → Type 0
IsCutByMemory r =
    IsHaltedAt r halt.NoMemory r.written_after r.faults_after
    ⊎ ((written : Option (List ℕ)) × IsHaltedAt r halt.Shelf written r.faults × PartFollows written (lines_of (write_fault_row ∷ [])) r.written_after)
