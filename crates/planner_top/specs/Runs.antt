-- What is seen of a run.
use Rattle.std.specs.Prelude.{◌≡◌, ◌≤◌, ◌+◌, ℕ, List, [], ◌∷◌, Option, ◌++◌, take, option_map, Result, Ok, Err, MatchResult, IsTrue, not, ⊤}
use Rattle.gsm_outside.specs.Held.{Held}
use Rattle.command_words.specs.declared.command.Command.{Command}
use Rattle.command_words.specs.declared.command.Command.TheVariants as command
use Rattle.command_words.specs.declared.word_fault.WordFault.{WordFault}
use Rattle.command_words.specs.Commands.{reads_network}
use Rattle.command_words.specs.Asked.{Asked, asked_of}
use Rattle.stock_report.specs.Lines.{lines_of}
use Rattle.stock_report.specs.Refusals.{write_fault_row}
use Rattle.planner_top.specs.declared.filled.TheConstants.{MOST_FILLED, MOST_IN_SESSION}
use Rattle.planner_top.specs.declared.status.Status.{Status}

-- a run: its words; what the shelf tells of what it holds, before and after; the shelf's counts of failed reads and of
-- failed writes; what the sink tells of what was written; the sink's count of faults; the count of filled tables; and the status
pub record Run : Type 0 where
  pub words : List (List ℕ)
  pub held : Option Held
  pub held_after : Option Held
  pub reads : ℕ
  pub reads_after : ℕ
  pub writes : ℕ
  pub writes_after : ℕ
  pub written : Option (List ℕ)
  pub written_after : Option (List ℕ)
  pub faults : ℕ
  pub faults_after : ℕ
  pub ticks : ℕ
  pub ticks_after : ℕ
  pub status : Status

-- a run, by what is seen of it
abbrev pub run_of : List (List ℕ) → Option Held → Option Held → ℕ → ℕ → ℕ → ℕ → Option (List ℕ) → Option (List ℕ) → ℕ → ℕ → ℕ → ℕ → Status → Run
run_of words held held_after reads reads_after writes writes_after written written_after faults faults_after ticks ticks_after status = record {
  words = words;
  held = held;
  held_after = held_after;
  reads = reads;
  reads_after = reads_after;
  writes = writes;
  writes_after = writes_after;
  written = written;
  written_after = written_after;
  faults = faults;
  faults_after = faults_after;
  ticks = ticks;
  ticks_after = ticks_after;
  status = status;
}

-- a text follows what was written
abbrev pub Follows : Option (List ℕ) → List ℕ → Option (List ℕ) → Type 0
Follows before text after = after ≡ option_map (λ bytes. bytes ++ text) before

-- the front of a text follows what was written
abbrev pub PartFollows : Option (List ℕ) → List ℕ → Option (List ℕ) → Type 0
PartFollows before text after = (n : ℕ) × (after ≡ option_map (λ bytes. bytes ++ take n text) before)

-- the whole line that a certificate could not be written follows what was written
abbrev pub IsTold : Option (List ℕ) → Option (List ℕ) → ℕ → ℕ → Type 0
IsTold before after faults faulted = (faulted ≡ faults) × Follows before (lines_of (write_fault_row ∷ [])) after

-- the most tables that a command fills
abbrev pub most_of : Command → ℕ
most_of command.Session = MOST_IN_SESSION
most_of _ = MOST_FILLED

-- the most tables that are filled for what is asked, or for a refusal
abbrev pub most_for : Result Asked WordFault → ℕ
most_for (Ok q) = most_of q.command
most_for (Err fault) = MOST_FILLED

-- no count falls, and that of filled tables does not rise past its room
pub record IsLater (r : Run) : Type 0 where
  pub reads : r.reads ≤ r.reads_after
  pub writes : r.writes ≤ r.writes_after
  pub faults : r.faults ≤ r.faults_after
  pub ticks : r.ticks ≤ r.ticks_after
  pub few : r.ticks_after ≤ r.ticks + most_for (asked_of r.words)

-- the words need no file: a rule on them fails, or the command that they name reads no network
abbrev pub NeedNoFile : List (List ℕ) → Type 0
NeedNoFile words = MatchResult (asked_of words) (λ q. IsTrue (not (reads_network q.command))) (λ fault. ⊤)
