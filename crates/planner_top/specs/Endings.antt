-- What is seen of a run that found an answer.
use Rattle.std.specs.Prelude.{◌≡◌, ◌+◌, ℕ, List, Option}
use Rattle.command_words.specs.Asked.{cert_name}
use Rattle.stock_report.specs.Lines.{lines_of}
use Rattle.planner_top.specs.declared.answer.Ending.{Ending}
use Rattle.planner_top.specs.declared.status.Status.{Status}
use Rattle.planner_top.specs.declared.answer.Ending.TheVariants as ending
use Rattle.planner_top.specs.declared.status.Status.TheVariants as status
use Rattle.cert_files.specs.Certificates.{put_cert}
use Rattle.planner_top.specs.Answers.{IsAnswer}
use Rattle.planner_top.specs.Runs.{Run, Follows}

-- the status of an ending
abbrev pub status_of : Ending → Status
status_of ending.Done = status.Done
status_of ending.Infeasible = status.Infeasible
status_of ending.Spent = status.Spent
status_of ending.Words = status.Words
status_of ending.Refused = status.Refused
status_of ending.TooLong = status.TooLong
status_of ending.NotAccepted = status.NotAccepted
status_of ending.NotFeasible = status.NotFeasible

-- the shelf holds what it held, but for the certificate that was made, where the words ask for it
abbrev pub IsWritten : Run → Option (List ℕ) → Type 0
IsWritten r cert = r.held_after ≡ put_cert (cert_name r.words) cert r.held

-- no call failed, the lines of the answer follow what was written, and its certificate is on the shelf where the words ask for it
abbrev pub Answered : Run → Ending → Type 0
Answered r e =
    (r.reads_after ≡ r.reads) × (r.writes_after ≡ r.writes) × (r.faults_after ≡ r.faults)
    × ((rows : List (List (List ℕ))) × (filled : ℕ) × (cert : Option (List ℕ)) × (r.ticks_after ≡ r.ticks + filled)
    × IsAnswer r.words r.held e rows filled cert × Follows r.written (lines_of rows) r.written_after × IsWritten r cert)

-- an answer was found
pub record IsFound (r : Run) (rows : List (List (List ℕ))) (cert : Option (List ℕ)) : Type 0 where
  pub reads : r.reads_after ≡ r.reads
  pub ending : Ending
  pub filled : ℕ
  pub ticks : r.ticks_after ≡ r.ticks + filled
  pub answer : IsAnswer r.words r.held ending rows filled cert

-- an answer was found, and its certificate is on the shelf where the words ask for it
pub record IsGiven (r : Run) (rows : List (List (List ℕ))) : Type 0 where
  pub cert : Option (List ℕ)
  pub found : IsFound r rows cert
  pub written : IsWritten r cert
  pub writes : r.writes_after ≡ r.writes
