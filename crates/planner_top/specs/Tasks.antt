-- What a request asks to be done with the network of its files, or of the files of a trial, or the first rule on files that fails.
use Rattle.std.specs.Prelude.{◌≡◌, ℕ, List, length, Option, Some, None, Result, Ok, Err, MatchOption}
use Rattle.tree_order.specs.declared.forest.Forest.{Forest}
use Rattle.command_words.specs.declared.command.Command.{Command}
use Rattle.command_words.specs.declared.asked.TrialNumbers.{TrialNumbers}
use Rattle.stage_file.specs.declared.raw.Files.{Files}
use Rattle.stage_file.specs.declared.raw.RawNet.{RawNet}
use Rattle.stage_file.specs.declared.fault.FileFault.{FileFault}
use Rattle.stage_file.specs.Rows.{rows_of_bytes}
use Rattle.stage_file.specs.Arcs.{names_of}
use Rattle.stage_file.specs.Raw.{raw_of}
use Rattle.stage_file.specs.PlanRecords.{plan_file_fault, plan_of}
use Rattle.tree_order.specs.Forest.{IsForest, IsOnlyForest}
use Rattle.network_check.specs.declared.checked.Checked.{Checked}
use Rattle.network_check.specs.Budgets.{IsBudgetOf}
use Rattle.network_check.specs.Checked.{supply_arcs, IsNetworkOf}
use Rattle.network_check.specs.Refusals.{IsFirstRefusal}
use Rattle.gsm_gen.specs.Makes.{made_files}
use Rattle.edit_reuse.specs.Refusals.{budget_fault}
use Rattle.edit_reuse.specs.Sessions.{State, IsOver}
use Rattle.request_files.specs.declared.contents.Contents.{Contents}
use Rattle.command_words.specs.declared.command.Command.TheVariants as command
use Rattle.planner_top.specs.declared.task.Task.{Task}
use Rattle.planner_top.specs.declared.task.Report.{Report}
use Rattle.planner_top.specs.declared.stop.Stop.{Stop}
use Rattle.planner_top.specs.declared.task.Task.TheVariants as task
use Rattle.planner_top.specs.declared.task.Report.TheVariants as report
use Rattle.planner_top.specs.declared.task.Detail.TheVariants as detail
use Rattle.planner_top.specs.declared.stop.Stop.TheVariants as stop

-- the rows of the three files of a network
abbrev pub files_in : Contents → Files
files_in c = record { stages = rows_of_bytes c.stages; tables = rows_of_bytes c.tables; arcs = rows_of_bytes c.arcs }

-- the records of the files of a network
abbrev pub raw_in : ℕ → Contents → RawNet
raw_in horizon c = raw_of horizon (files_in c)

-- the one forest of the records
pub record IsForestIn (raw : RawNet) (f : Forest) : Type 0 where
  pub forest : IsForest (length raw.stages) (supply_arcs raw) f
  pub only : IsOnlyForest (length raw.stages) (supply_arcs raw) f

-- the network of records is solved over its forest, within the budget that is asked for, or else the default, and told so
pub record IsSearchOf (ranges : Option ℕ) (raw : RawNet) (how : Report) (t : Task) : Type 0 where
  pub checked : Checked
  pub network : IsNetworkOf raw checked
  pub forest : Forest
  pub forest_in : IsForestIn raw forest
  pub budget : ℕ
  pub budget_is : IsBudgetOf checked.network ranges (Ok budget)
  pub task_is : t ≡ task.Solve checked forest budget how

-- the first rule that fails behind those on the network: on the budget, or on the command's further file
abbrev pub IsLastFault : Command → Option ℕ → RawNet → List ℕ → Option FileFault → Type 0
IsLastFault command.Solve ranges raw further fault = fault ≡ budget_fault raw ranges
IsLastFault command.Audit ranges raw further fault = fault ≡ plan_file_fault (names_of raw.stages) (rows_of_bytes further)
IsLastFault command.Check ranges raw further fault = fault ≡ None
IsLastFault command.Explain ranges raw further fault = fault ≡ None
IsLastFault command.Clusters ranges raw further fault = fault ≡ None
IsLastFault command.Session ranges raw further fault = fault ≡ budget_fault raw ranges
IsLastFault command.Trial ranges raw further fault = fault ≡ budget_fault raw ranges

-- what a command does with the network of records, and its further file
abbrev pub IsTaskFrom : Command → Option ℕ → RawNet → List ℕ → Task → Type 0
IsTaskFrom command.Solve ranges raw further t = IsSearchOf ranges raw report.Stages t
IsTaskFrom command.Audit ranges raw further t =
    (c : Checked) × IsNetworkOf raw c × (t ≡ task.Audit c (plan_of (names_of raw.stages) (rows_of_bytes further)))
IsTaskFrom command.Check ranges raw further t = (c : Checked) × IsNetworkOf raw c × (t ≡ task.Check c further detail.Verdict)
IsTaskFrom command.Explain ranges raw further t = (c : Checked) × IsNetworkOf raw c × (t ≡ task.Check c further detail.Explanation)
IsTaskFrom command.Clusters ranges raw further t = (c : Checked) × IsNetworkOf raw c × (t ≡ task.Clusters c)
IsTaskFrom command.Session ranges raw further t = ⊥
IsTaskFrom command.Trial ranges raw further t = ⊥

-- the first rule that fails on files under a horizon, and then on what is asked of them
abbrev pub IsFirstOn : ℕ → Files → (Option FileFault → Type 0) → Option FileFault → Type 0
IsFirstOn horizon files IsLast fault =
    (before : Option FileFault) × IsFirstRefusal horizon files before × MatchOption before (IsLast fault) (λ f. fault ≡ Some f)

-- the first rule on files that fails, none where all hold
abbrev pub IsFirstRefused : Command → Option ℕ → ℕ → Contents → Option FileFault → Type 0
IsFirstRefused command ranges horizon c fault =
    IsFirstOn horizon (files_in c) (IsLastFault command ranges (raw_in horizon c) c.further) fault

-- what a command does with files under a horizon; a session is over them, and carries out the rows of its script
abbrev pub IsTaskBy : Command → Option ℕ → ℕ → Contents → Task → Type 0
IsTaskBy command.Solve ranges horizon c t = IsTaskFrom command.Solve ranges (raw_in horizon c) c.further t
IsTaskBy command.Audit ranges horizon c t = IsTaskFrom command.Audit ranges (raw_in horizon c) c.further t
IsTaskBy command.Check ranges horizon c t = IsTaskFrom command.Check ranges (raw_in horizon c) c.further t
IsTaskBy command.Explain ranges horizon c t = IsTaskFrom command.Explain ranges (raw_in horizon c) c.further t
IsTaskBy command.Clusters ranges horizon c t = IsTaskFrom command.Clusters ranges (raw_in horizon c) c.further t
IsTaskBy command.Session ranges horizon c t =
    (s : State) × IsOver horizon ranges (files_in c) s × (t ≡ task.Session s (rows_of_bytes c.further))
IsTaskBy command.Trial ranges horizon c t = ⊥

-- what a command does with the network of files under a horizon, or why it is refused
abbrev pub IsTask : Command → Option ℕ → ℕ → Contents → Result Task Stop → Type 0
IsTask command ranges horizon c (Ok t) =
    IsFirstRefused command ranges horizon c None × IsTaskBy command ranges horizon c t
IsTask command ranges horizon c (Err (stop.Refused fault)) = IsFirstRefused command ranges horizon c (Some fault)
IsTask command ranges horizon c (Err _) = ⊥

-- the files of a trial under a horizon
abbrev pub trial_files : TrialNumbers → ℕ → Files
trial_files t horizon = made_files t.seed t.stages t.extra horizon

-- the first rule that fails on the files of a trial, none where all hold
abbrev pub IsTrialRefused : TrialNumbers → Option ℕ → ℕ → Option FileFault → Type 0
IsTrialRefused t ranges horizon fault =
    IsFirstOn horizon (trial_files t horizon) (λ f. f ≡ budget_fault (raw_of horizon (trial_files t horizon)) ranges) fault

-- what a trial is: the network of its files is solved and told of as a trial of its seed; or why it is refused
abbrev pub IsTrialTask : TrialNumbers → Option ℕ → ℕ → Result Task Stop → Type 0
IsTrialTask t ranges horizon (Ok u) =
    IsTrialRefused t ranges horizon None × IsSearchOf ranges (raw_of horizon (trial_files t horizon)) (report.Trial t.seed) u
IsTrialTask t ranges horizon (Err (stop.Refused fault)) = IsTrialRefused t ranges horizon (Some fault)
IsTrialTask t ranges horizon (Err _) = ⊥
