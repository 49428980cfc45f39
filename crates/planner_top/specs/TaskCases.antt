-- What the calls give that find a task.
use Rattle.std.specs.Prelude.{◌≡◌, ℕ, List, Option, Some, None, Result, Ok, Err, MatchOption, ⊤}
use Rattle.command_words.specs.declared.command.Command.{Command}
use Rattle.command_words.specs.declared.asked.TrialNumbers.{TrialNumbers}
use Rattle.stage_file.specs.declared.raw.RawNet.{RawNet}
use Rattle.stage_file.specs.declared.fault.FileFault.{FileFault}
use Rattle.network_check.specs.Refusals.{IsFirstTogether}
use Rattle.edit_reuse.specs.Refusals.{budget_fault}
use Rattle.request_files.specs.declared.contents.Contents.{Contents}
use Rattle.planner_top.specs.declared.task.Task.{Task}
use Rattle.planner_top.specs.declared.task.Report.{Report}
use Rattle.planner_top.specs.declared.stop.Unsolved.{Unsolved}
use Rattle.planner_top.specs.declared.stop.Stop.TheVariants as stop
use Rattle.planner_top.specs.declared.stop.Unsolved.TheVariants as unsolved
use Rattle.planner_top.specs.Tasks.{IsLastFault, IsSearchOf, IsTaskFrom, IsTask, IsTrialTask}
use Rattle.planner_top.specs.Ready.{IsReady}

-- what a call gives that finds the task of records on which no rule on the network fails
abbrev pub LastCase : Command → Option ℕ → RawNet → List ℕ → Result Task Unsolved → Type 0
LastCase command ranges raw further (Ok t) = IsLastFault command ranges raw further None × IsTaskFrom command ranges raw further t × IsReady t
LastCase command ranges raw further (Err (unsolved.Stop (stop.Refused fault))) = IsLastFault command ranges raw further (Some fault)
LastCase command ranges raw further (Err (unsolved.Stop _)) = ⊥
LastCase command ranges raw further (Err (unsolved.Fault word)) = ⊥
LastCase command ranges raw further (Err unsolved.NoMemory) = ⊤

-- what a call gives that finds the search of records, told so
abbrev pub SearchCase : Option ℕ → RawNet → Report → Result Task Unsolved → Type 0
SearchCase ranges raw how (Ok t) = (budget_fault raw ranges ≡ None) × IsSearchOf ranges raw how t × IsReady t
SearchCase ranges raw how (Err (unsolved.Stop (stop.Refused fault))) = budget_fault raw ranges ≡ Some fault
SearchCase ranges raw how (Err (unsolved.Stop _)) = ⊥
SearchCase ranges raw how (Err (unsolved.Fault word)) = ⊥
SearchCase ranges raw how (Err unsolved.NoMemory) = ⊤

-- what a call gives that finds the task of records: it, or the first rule that fails on them together or behind
abbrev pub TogetherCase : Command → Option ℕ → RawNet → List ℕ → Result Task Unsolved → Type 0
TogetherCase command ranges raw further (Ok t) =
    IsFirstTogether raw None × IsLastFault command ranges raw further None × IsTaskFrom command ranges raw further t × IsReady t
TogetherCase command ranges raw further (Err (unsolved.Stop (stop.Refused fault))) =
    (before : Option FileFault) × IsFirstTogether raw before
    × MatchOption before (IsLastFault command ranges raw further (Some fault)) (λ f. fault ≡ f)
TogetherCase command ranges raw further (Err (unsolved.Stop _)) = ⊥
TogetherCase command ranges raw further (Err (unsolved.Fault word)) = ⊥
TogetherCase command ranges raw further (Err unsolved.NoMemory) = ⊤

-- what a call gives that finds the task
abbrev pub TaskCase : Command → Option ℕ → ℕ → Contents → Result Task Unsolved → Type 0
TaskCase command ranges horizon c (Ok t) = IsTask command ranges horizon c (Ok t) × IsReady t
TaskCase command ranges horizon c (Err (unsolved.Stop s)) = IsTask command ranges horizon c (Err s)
TaskCase command ranges horizon c (Err (unsolved.Fault word)) = ⊥
TaskCase command ranges horizon c (Err unsolved.NoMemory) = ⊤

-- what a call gives that finds the task of a trial
abbrev pub TrialCase : TrialNumbers → Option ℕ → ℕ → Result Task Unsolved → Type 0
TrialCase t ranges horizon (Ok u) = IsTrialTask t ranges horizon (Ok u) × IsReady u
TrialCase t ranges horizon (Err (unsolved.Stop s)) = IsTrialTask t ranges horizon (Err s)
TrialCase t ranges horizon (Err (unsolved.Fault word)) = ⊥
TrialCase t ranges horizon (Err unsolved.NoMemory) = ⊤
