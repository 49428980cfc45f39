-- What a run answers to its words and files, where no call on the outside failed and memory sufficed.
use Rattle.std.specs.Prelude.{◌≡◌, ◌≢◌, ◌≤◌, ◌↔◌, ◌⊎◌, ℕ, List, [], ◌∷◌, Option, None, Some, Result, Ok, Err, IsErr, MatchResult, MatchOption, IfSome, ⊤}
use Rattle.gsm_outside.specs.Held.{Held}
use Rattle.command_words.specs.Asked.{Asked, asked_of}
use Rattle.request_files.specs.Lengths.{too_long_of, AreShort}
use Rattle.request_files.specs.declared.contents.Contents.{Contents}
use Rattle.request_files.specs.Contents.{contents_of, IsFileOf}
use Rattle.command_words.specs.declared.command.Command.{Command}
use Rattle.command_words.specs.declared.file_word.FileWord.{FileWord}
use Rattle.command_words.specs.declared.word_fault.WordFault.{WordFault}
use Rattle.stock_report.specs.Lines.{lines_of}
use Rattle.command_words.specs.declared.command.Command.TheVariants as command
use Rattle.planner_top.specs.declared.filled.TheConstants.{MOST_FILLED}
use Rattle.planner_top.specs.declared.task.Task.{Task}
use Rattle.planner_top.specs.declared.stop.Stop.{Stop}
use Rattle.planner_top.specs.declared.answer.Ending.{Ending}
use Rattle.planner_top.specs.declared.stop.Stop.TheVariants as stop
use Rattle.planner_top.specs.declared.answer.Ending.TheVariants as ending
use Rattle.planner_top.specs.Stops.{stop_row}
use Rattle.planner_top.specs.Tasks.{IsTask, IsTrialTask}
use Rattle.planner_top.specs.Done.{IsDone}

-- the files of a request may have these contents: none is too long, and on a shelf that tells what it holds they are those that it holds
abbrev pub MayHave : Asked → Option Held → Contents → Type 0
MayHave q held c = AreShort q.command c × IfSome held (λ m. (too_long_of q m ≡ None) × (c ≡ contents_of q m))

-- a file of a request may be the first that is too long: the command reads it, and on a shelf that tells it is the first
abbrev pub MayBeLong : Asked → Option Held → FileWord → Type 0
MayBeLong q held word = IsFileOf q.command word × IfSome held (λ m. too_long_of q m ≡ Some word)

-- what a request asks to be done with its files, or why it is refused: by a rule on files, or by the length of one; on a shelf that does
-- not tell, what it asks with some files
abbrev pub IsFilesProblem : Asked → Option Held → Result Task Stop → Type 0
IsFilesProblem q held problem =
    ((c : Contents) × MayHave q held c × IsTask q.command q.ranges q.horizon c problem)
    ⊎ ((word : FileWord) × MayBeLong q held word × (problem ≡ Err (stop.TooLong word)))

-- what a request asks to be done, or why it is refused; a trial reads no file
abbrev pub IsAskedProblem : Asked → Option Held → Result Task Stop → Type 0
IsAskedProblem q held problem = MatchOption q.trial (IsFilesProblem q held problem) (λ t. IsTrialTask t q.ranges q.horizon problem)

-- what words ask to be done on a shelf, or why they are refused; on one that tells, it is one thing
abbrev pub IsProblem : List (List ℕ) → Option Held → Result Task Stop → Type 0
IsProblem words held problem =
    MatchResult (asked_of words) (λ q. IsAskedProblem q held problem) (λ fault. problem ≡ Err (stop.Words fault))

-- the ending of a refusal
abbrev pub ending_of : Stop → Ending
ending_of (stop.Words fault) = ending.Words
ending_of (stop.TooLong word) = ending.TooLong
ending_of (stop.Refused fault) = ending.Refused

-- a refusal, with its line
abbrev pub IsRefusal : Ending → List (List (List ℕ)) → ℕ → Option (List ℕ) → Stop → Type 0
IsRefusal e rows filled cert s = (e ≡ ending_of s) × (rows ≡ stop_row s ∷ []) × (filled ≡ 0) × (cert ≡ None)

-- a command may end so by one answer; a session that is done is carried out, and has no such answer, and a trial has a plan
abbrev pub MayEnd : Command → Ending → Type 0
MayEnd c ending.Done = c ≢ command.Session
MayEnd c ending.Infeasible = c ≡ command.Solve
MayEnd c ending.Spent = (c ≡ command.Solve) ⊎ (c ≡ command.Trial)
MayEnd c ending.NotAccepted = (c ≡ command.Check) ⊎ (c ≡ command.Explain)
MayEnd c ending.NotFeasible = c ≡ command.Audit
MayEnd c ending.Words = ⊤
MayEnd c ending.Refused = ⊤
MayEnd c ending.TooLong = ⊤

-- an ending with its rows, the number of tables that were filled and the certificate that was made is the answer to words on a shelf: to
-- what the shelf holds where it tells, and to some files where it does not
pub record IsAnswer (said : List (List ℕ)) (held : Option Held) (e : Ending) (rows : List (List (List ℕ))) (filled : ℕ) (cert : Option (List ℕ)) : Type 0 where
  -- the words are refused exactly where a rule on them fails, and by the line of the first that does
  pub words : (e ≡ ending.Words) ↔ IsErr (asked_of said)
  pub rule : (fault : WordFault) → asked_of said ≡ Err fault → rows ≡ stop_row (stop.Words fault) ∷ []
  pub own : (q : Asked) → asked_of said ≡ Ok q → MayEnd q.command e
  pub few : filled ≤ MOST_FILLED
  -- the refusal that the words and files ask for, or else what they ask to be done
  pub told : (problem : Result Task Stop) × IsProblem said held problem × MatchResult problem (IsDone e rows filled cert) (IsRefusal e rows filled cert)

-- a text is the lines of rows of which something holds
abbrev pub IsTextOf : List ℕ → (List (List (List ℕ)) → Type 0) → Type 0
IsTextOf text P = (rows : List (List (List ℕ))) × (text ≡ lines_of rows) × P rows
