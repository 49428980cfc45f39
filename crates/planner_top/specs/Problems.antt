-- What the calls give that a run is made of, with the count of failed reads before and after them.
use Rattle.std.specs.Prelude.{◌≡◌, ◌≤◌, ◌+◌, ◌-◌, ℕ, List, Option, None, Result, Ok, Err, ⊤, IsOk}
use Rattle.gsm_outside.specs.Held.{Held}
use Rattle.command_words.specs.Asked.{Asked, asked_of}
use Rattle.gsm_outside.specs.Causes.{Rose}
use Rattle.command_words.specs.declared.file_word.FileWord.{FileWord}
use Rattle.request_files.specs.Contents.{IsUnread}
use Rattle.planner_top.specs.declared.filled.TheConstants.{MOST_FILLED}
use Rattle.planner_top.specs.declared.task.Task.{Task}
use Rattle.planner_top.specs.declared.stop.Stop.{Stop}
use Rattle.planner_top.specs.declared.stop.Unsolved.{Unsolved}
use Rattle.planner_top.specs.declared.answer.Answer.{Answer}
use Rattle.planner_top.specs.declared.answer.Reply.{Reply}
use Rattle.planner_top.specs.declared.answer.Reply.TheVariants as reply
use Rattle.planner_top.specs.declared.answer.Unanswered.{Unanswered}
use Rattle.planner_top.specs.declared.task.Task.TheVariants as task
use Rattle.planner_top.specs.declared.stop.Stop.TheVariants as stop
use Rattle.planner_top.specs.declared.stop.Unsolved.TheVariants as unsolved
use Rattle.planner_top.specs.declared.answer.Unanswered.TheVariants as unanswered
use Rattle.planner_top.specs.Ready.{IsReady, command_of}
use Rattle.cert_files.specs.Certificates.{bytes_in}
use Rattle.planner_top.specs.Done.{IsDone}
use Rattle.planner_top.specs.Sessions.{IsSessionOf}
use Rattle.planner_top.specs.Answers.{IsAskedProblem, IsProblem, IsAnswer, IsTextOf, IsRefusal}

-- words are refused as such exactly where a rule on them fails
abbrev pub TellsWords : List (List ℕ) → Stop → Type 0
TellsWords words (stop.Words fault) = asked_of words ≡ Err fault
TellsWords words (stop.TooLong word) = IsOk (asked_of words)
TellsWords words (stop.Refused fault) = IsOk (asked_of words)

-- the words ask for files, and the file that was not read is one of them
abbrev pub IsUnreadOf : List (List ℕ) → Option Held → FileWord → Type 0
IsUnreadOf words held word = (q : Asked) × (asked_of words ≡ Ok q) × (q.trial ≡ None) × IsUnread q held word

-- what a request asks to be done, or why there is nothing to do
abbrev pub AskedCase : Asked → Option Held → ℕ → ℕ → Result Task Unsolved → Type 0
AskedCase q held before now (Ok t) = (now ≡ before) × IsReady t × (command_of t ≡ q.command) × IsAskedProblem q held (Ok t)
AskedCase q held before now (Err (unsolved.Stop (stop.Words fault))) = ⊥
AskedCase q held before now (Err (unsolved.Stop s)) = (now ≡ before) × IsAskedProblem q held (Err s)
AskedCase q held before now (Err (unsolved.Fault word)) = (before ≤ now) × Rose before now × (q.trial ≡ None) × IsUnread q held word
AskedCase q held before now (Err unsolved.NoMemory) = before ≤ now

-- what the words ask to be done, or why there is nothing to do
abbrev pub ProblemCase : List (List ℕ) → Option Held → ℕ → ℕ → Result Task Unsolved → Type 0
ProblemCase words held before now (Ok t) =
    (now ≡ before) × IsReady t × ((q : Asked) × (asked_of words ≡ Ok q) × (command_of t ≡ q.command)) × IsProblem words held (Ok t)
ProblemCase words held before now (Err (unsolved.Stop s)) =
    (now ≡ before) × TellsWords words s × IsProblem words held (Err s)
ProblemCase words held before now (Err (unsolved.Fault word)) = (before ≤ now) × Rose before now × IsUnreadOf words held word
ProblemCase words held before now (Err unsolved.NoMemory) = before ≤ now

-- the answer where there is nothing to do, or why there is none
abbrev pub UnsolvedCase : Unsolved → Result Answer Unanswered → Type 0
UnsolvedCase (unsolved.Stop s) (Ok a) = IsTextOf a.text (λ rows. IsRefusal a.ending rows 0 (bytes_in a.cert) s)
UnsolvedCase (unsolved.Stop s) (Err (unanswered.Fault word)) = ⊥
UnsolvedCase (unsolved.Stop s) (Err unanswered.NoMemory) = ⊤
UnsolvedCase (unsolved.Fault word) r = r ≡ Err (unanswered.Fault word)
UnsolvedCase unsolved.NoMemory r = r ≡ Err unanswered.NoMemory

-- what a task gives, with the count of filled tables before and after: the answer, or the session that is to be carried out
abbrev pub ReplyCase : Task → ℕ → ℕ → Reply → Type 0
ReplyCase t ticks ticked (reply.Answer a) = IsTextOf a.text (λ rows. IsDone a.ending rows (ticked - ticks) (bytes_in a.cert) t)
ReplyCase t ticks ticked (reply.Session s script) = (t ≡ task.Session s script) × (ticked ≡ ticks)

-- what the words ask for, or why there is no answer, with the count of filled tables before and after
abbrev pub AnswerCase : List (List ℕ) → Option Held → ℕ → ℕ → ℕ → ℕ → Result Reply Unanswered → Type 0
AnswerCase words held before now ticks ticked (Ok (reply.Answer a)) =
    (now ≡ before) × ((filled : ℕ) × (ticked ≡ ticks + filled) × IsTextOf a.text (λ rows. IsAnswer words held a.ending rows filled (bytes_in a.cert)))
AnswerCase words held before now ticks ticked (Ok (reply.Session s script)) =
    (now ≡ before) × (ticked ≡ ticks) × IsReady (task.Session s script) × IsSessionOf words held s script
AnswerCase words held before now ticks ticked (Err (unanswered.Fault word)) =
    (before ≤ now) × Rose before now × IsUnreadOf words held word × (ticked ≡ ticks)
AnswerCase words held before now ticks ticked (Err unanswered.NoMemory) =
    (before ≤ now) × (ticks ≤ ticked) × (ticked ≤ ticks + MOST_FILLED)
