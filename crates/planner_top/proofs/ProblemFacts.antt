-- What is known of what a request asks, once its files are read.
use Rattle.std.proofs.Common.{◌≡◌, ℕ, Option, Some, None, Result, Ok, Err, refl, sym, ap, ◌∙◌, not, inl, inr, arith}
use Rattle.std.specs.Prelude.{IsTrue}
use Rattle.gsm_outside.specs.Held.{Held}
use Rattle.command_words.specs.Asked.{Asked}
use Rattle.request_files.specs.Contents.{FilesCase}
use Rattle.command_words.specs.declared.asked.TrialNumbers.{TrialNumbers}
use Rattle.command_words.specs.declared.command.Command.{Command}
use Rattle.command_words.specs.declared.command.Command.TheVariants as command
use Rattle.command_words.specs.Commands.{reads_network}
use Rattle.planner_top.specs.Tasks.{IsTrialTask}
use Rattle.planner_top.specs.Ready.{command_of}
use Rattle.planner_top.specs.TaskCases.{TaskCase, TrialCase}
use Rattle.planner_top.specs.Answers.{MayHave, IsFilesProblem, IsAskedProblem}
use Rattle.planner_top.specs.Stops.{unsolved_as}
use Rattle.planner_top.specs.Problems.{AskedCase}
use Rattle.request_files.specs.declared.contents.Contents.{Contents}
use Rattle.request_files.specs.declared.unread.Unread.{Unread}
use Rattle.request_files.specs.declared.unread.Unread.TheVariants as unread
use Rattle.planner_top.specs.declared.task.Task.{Task}
use Rattle.planner_top.specs.declared.stop.Stop.{Stop}
use Rattle.planner_top.specs.declared.stop.Stop.TheVariants as stop
use Rattle.planner_top.specs.declared.stop.Unsolved.{Unsolved}
use Rattle.planner_top.specs.declared.stop.Unsolved.TheVariants as unsolved
use Rattle.planner_top.proofs.TaskFacts.{own_task}

-- it is what a request asks that reads files
of_files : (q : Asked) (held : Option Held) (problem : Result Task Stop) → q.trial ≡ None → IsFilesProblem q held problem → IsAskedProblem q held problem
of_files q held problem files is = rw files is

pub asked_case : (q : Asked) (held : Option Held) (before now : ℕ) (contents : Contents) (r : Result Task Unsolved) → now ≡ before → MayHave q held contents → q.trial ≡ None
    → TaskCase q.command q.ranges q.horizon contents r → AskedCase q held before now r
asked_case q held before now contents (Ok t) same read files case =
    (same, case.1, own_task q.command q.ranges q.horizon contents t case.0.1, of_files q held (Ok t) files (inl (contents, read, case.0)))
asked_case q held before now contents (Err (unsolved.Stop (stop.Refused fault))) same read files case = (same, of_files q held (Err (stop.Refused fault)) files (inl (contents, read, case)))
asked_case q held before now contents (Err (unsolved.Stop (stop.Words fault))) same read files case = absurd case
asked_case q held before now contents (Err (unsolved.Stop (stop.TooLong word))) same read files case = absurd case
asked_case q held before now contents (Err (unsolved.Fault word)) same read files case = absurd case
asked_case q held before now contents (Err unsolved.NoMemory) same read files case = omega arith

-- the files of a request were not read
pub asked_unread : (q : Asked) (held : Option Held) (before now : ℕ) (u : Unread) → q.trial ≡ None → FilesCase q held before now (Err u) → AskedCase q held before now (Err (unsolved_as u))
asked_unread q held before now (unread.TooLong word) files case = (case.0, of_files q held (Err (stop.TooLong word)) files (inr (word, (case.1, case.2), refl)))
asked_unread q held before now (unread.Fault word) files case = (case.0, case.1, files, case.2)
asked_unread q held before now unread.NoMemory files case = case

of_trial : (q : Asked) (held : Option Held) (t : TrialNumbers) (problem : Result Task Stop) → q.trial ≡ Some t → IsTrialTask t q.ranges q.horizon problem → IsAskedProblem q held problem
of_trial q held t problem made is = rw made is

-- a trial reads no file
pub asked_trial : (q : Asked) (held : Option Held) (before : ℕ) (t : TrialNumbers) (r : Result Task Unsolved) → q.trial ≡ Some t → q.command ≡ command.Trial → TrialCase t q.ranges q.horizon r → AskedCase q held before before r
asked_trial q held before t (Ok u) made own case = (refl, case.1, ap command_of case.0.1.task_is ∙ sym own, of_trial q held t (Ok u) made case.0)
asked_trial q held before t (Err (unsolved.Stop (stop.Refused fault))) made own case = (refl, of_trial q held t (Err (stop.Refused fault)) made case)
asked_trial q held before t (Err (unsolved.Stop (stop.Words fault))) made own case = absurd case
asked_trial q held before t (Err (unsolved.Stop (stop.TooLong word))) made own case = absurd case
asked_trial q held before t (Err (unsolved.Fault word)) made own case = absurd case
asked_trial q held before t (Err unsolved.NoMemory) made own case = omega arith

-- a command that reads no network is the trial
pub trial_alone : (c : Command) → IsTrue (not (reads_network c)) → c ≡ command.Trial
trial_alone command.Solve is = cc
trial_alone command.Session is = cc
trial_alone command.Audit is = cc
trial_alone command.Check is = cc
trial_alone command.Explain is = cc
trial_alone command.Clusters is = cc
trial_alone command.Trial is = refl
