-- What is seen of a run in which a call failed or memory did not suffice.
use Rattle.std.specs.Prelude.{◌≡◌, ℕ, List, [], ◌∷◌, Option, ◌⊎◌}
use Rattle.gsm_outside.specs.Causes.{Rose}
use Rattle.command_words.specs.Asked.{cert_name}
use Rattle.stock_report.specs.Lines.{lines_of}
use Rattle.stock_report.specs.Refusals.{fault_row, write_fault_row}
use Rattle.command_words.specs.declared.file_word.FileWord.{FileWord}
use Rattle.cert_files.specs.Certificates.{PutPart}
use Rattle.planner_top.specs.Problems.{IsUnreadOf}
use Rattle.planner_top.specs.Runs.{Run, Follows, PartFollows, IsTold}
use Rattle.planner_top.specs.Endings.{IsFound, IsGiven}

-- the count of failed reads rose, the words ask for files, and what the shelf holds stays
pub record IsUnsolved (r : Run) (word : FileWord) : Type 0 where
  pub rose : Rose r.reads r.reads_after
  pub ticks : r.ticks_after ≡ r.ticks
  pub unread : IsUnreadOf r.words r.held word
  pub held : r.held_after ≡ r.held
  pub writes : r.writes_after ≡ r.writes

-- the count of failed reads rose, and the line that says so follows what was written; the file that it names may be the one
abbrev pub FailedRead : Run → Type 0
FailedRead r =
    (r.faults_after ≡ r.faults) × ((word : FileWord) × IsUnsolved r word × Follows r.written (lines_of (fault_row word ∷ [])) r.written_after)

-- the shelf holds what it held, but perhaps for the front of the certificate of the answer that was found, under the name that the
-- words ask for
pub record IsBegun (r : Run) : Type 0 where
  pub rows : List (List (List ℕ))
  pub cert : Option (List ℕ)
  pub found : IsFound r rows cert
  pub part : PutPart (cert_name r.words) cert r.held r.held_after

-- an answer was found, but a write of its certificate failed
pub record IsUnwritten (r : Run) : Type 0 where
  pub rose : Rose r.writes r.writes_after
  pub begun : IsBegun r

-- the rows that a run prints: those of an answer, or that a file could not be read, or that the certificate could not be written
abbrev pub IsPrinted : Run → List (List (List ℕ)) → Type 0
IsPrinted r rows =
    IsGiven r rows
    ⊎ ((word : FileWord) × IsUnsolved r word × (rows ≡ fault_row word ∷ []))
    ⊎ (IsUnwritten r × (rows ≡ write_fault_row ∷ []))

-- the front of what a run prints was written
pub record PrintsFront (r : Run) : Type 0 where
  pub rows : List (List (List ℕ))
  pub printed : IsPrinted r rows
  pub front : PartFollows r.written (lines_of rows) r.written_after

-- nothing was written, and the shelf holds what it held
pub record IsStill (r : Run) : Type 0 where
  pub written : r.written_after ≡ r.written
  pub held : r.held_after ≡ r.held
  pub writes : r.writes_after ≡ r.writes

-- nothing was printed, and a certificate was perhaps begun
pub record IsSilent (r : Run) : Type 0 where
  pub written : r.written_after ≡ r.written
  pub begun : IsBegun r

-- what is left where memory did not suffice: nothing was written, a certificate was perhaps begun, or the front of what a run prints was
-- written
abbrev pub IsLeft : Run → Type 0
IsLeft r = IsStill r ⊎ IsSilent r ⊎ PrintsFront r

-- a write failed: one of the output, or one of the certificate, which the line then says
abbrev pub FailedWrite : Run → Type 0
FailedWrite r = Rose r.faults r.faults_after ⊎ (IsUnwritten r × IsTold r.written r.written_after r.faults r.faults_after)
