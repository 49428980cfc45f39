-- The promise of the top call.
use Rattle.std.specs.Prelude.{◌≡◌, ◌↔◌, ℕ, List, Some, None, Ok, Err, ◌⊎◌, ◌≢◌}
use Rattle.gsm_outside.specs.Held.{Held}
use Rattle.command_words.specs.declared.word_fault.WordFault.{WordFault}
use Rattle.stage_file.specs.declared.fault.FileFault.{FileFault}
use Rattle.gsm_outside.specs.Causes.{Rose}
use Rattle.command_words.specs.Asked.{cert_name}
use Rattle.command_words.specs.declared.file_word.FileWord.{FileWord}
use Rattle.planner_top.specs.declared.task.Task.{Task}
use Rattle.planner_top.specs.declared.answer.Ending.{Ending}
use Rattle.planner_top.specs.declared.stop.Stop.TheVariants as stop
use Rattle.planner_top.specs.declared.answer.Ending.TheVariants as ending
use Rattle.planner_top.specs.declared.status.Status.TheVariants as status
use Rattle.planner_top.specs.Answers.{IsProblem}
use Rattle.planner_top.specs.Causes.{CanBeDone, IsRefusedTask, IsBrokenTask, IsEmptyTask, IsSpentTask, EndsOrSpent}
use Rattle.planner_top.specs.Runs.{Run, IsLater}
use Rattle.planner_top.specs.Endings.{status_of, Answered}
use Rattle.planner_top.specs.Faults.{FailedRead, PrintsFront, IsLeft, FailedWrite}
use Rattle.planner_top.specs.Sessions.{KeepsNames, IsCarried, IsCutByWrite, IsCutByMemory}

-- which ending comes exactly where, by what words and files ask to be done, or their refusal; a network whose forest drops an arc may
-- end spent in the place of done or infeasible
pub record Exactly (said : List (List ℕ)) (m : Held) (e : Ending) : Type 0 where
  pub words : (e ≡ ending.Words) ↔ ((fault : WordFault) × IsProblem said (Some m) (Err (stop.Words fault)))
  pub too_long : (e ≡ ending.TooLong) ↔ ((word : FileWord) × IsProblem said (Some m) (Err (stop.TooLong word)))
  pub refused : (e ≡ ending.Refused) ↔ ((fault : FileFault) × IsProblem said (Some m) (Err (stop.Refused fault)))
  pub not_accepted : (e ≡ ending.NotAccepted) ↔ ((t : Task) × IsProblem said (Some m) (Ok t) × IsRefusedTask t)
  pub not_feasible : (e ≡ ending.NotFeasible) ↔ ((t : Task) × IsProblem said (Some m) (Ok t) × IsBrokenTask t)
  pub infeasible : e ≡ ending.Infeasible → (t : Task) × IsProblem said (Some m) (Ok t) × IsEmptyTask t
  pub where_infeasible : (t : Task) → IsProblem said (Some m) (Ok t) → IsEmptyTask t → EndsOrSpent e ending.Infeasible t
  pub done : e ≡ ending.Done → (t : Task) × IsProblem said (Some m) (Ok t) × CanBeDone t
  pub where_done : (t : Task) → IsProblem said (Some m) (Ok t) → CanBeDone t → EndsOrSpent e ending.Done t
  pub spent : e ≡ ending.Spent → (t : Task) × IsProblem said (Some m) (Ok t) × IsSpentTask t

-- no call on the outside failed, and memory sufficed
pub record IsSure (r : Run) : Type 0 where
  pub reads : ¬ Rose r.reads r.reads_after
  pub writes : ¬ Rose r.writes r.writes_after
  pub puts : ¬ Rose r.faults r.faults_after
  pub memory : r.status ≢ status.NoMemory

-- the promise of a run: what it answers, what each fault leaves, and that nothing else changes
pub record Headline (r : Run) : Type 0 where
  -- whatever the status, the shelf holds what it held, but for the certificate that the words ask for, or those of a session's answers:
  -- where they ask for none, no write to it failed
  pub shelf : KeepsNames r.words r.held r.held_after
  pub writes : cert_name r.words ≡ None → r.writes_after ≡ r.writes
  -- no count falls, and that of filled tables keeps its room
  pub later : IsLater r
  -- where no call failed and memory sufficed there is an answer
  pub complete : IsSure r → (e : Ending) × (r.status ≡ status_of e)
  -- an answer is true of the words and of files, those that the shelf holds where it tells; its lines follow what was written, its
  -- certificate is on the shelf where the words ask for it, and no call failed; the same holds of each answer of a session that was
  -- carried out
  pub answer : (e : Ending) → r.status ≡ status_of e → Answered r e ⊎ ((e ≡ ending.Done) × IsCarried r)
  -- and it comes exactly where its cause is, on a shelf that tells what it holds
  pub exact : (e : Ending) (m : Held) → r.status ≡ status_of e → r.held ≡ Some m → Exactly r.words m e
  -- a read fault comes only where the count of failed reads rose, a write fault only where that of failed writes, which the line says, or
  -- that of the output's faults did; what each leaves
  pub read_fault : r.status ≡ status.ReadFault → FailedRead r
  pub write_fault : r.status ≡ status.WriteFault → (FailedWrite r × PrintsFront r) ⊎ IsCutByWrite r
  pub no_memory : r.status ≡ status.NoMemory → IsLeft r ⊎ IsCutByMemory r
