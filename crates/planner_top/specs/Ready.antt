-- What is known of a task when it is done.
use Rattle.std.specs.Prelude.{◌≤◌, ◌+◌, ℕ, List, length, IsTrue, ⊤}
use Rattle.service_model.specs.declared.cert_rules.TheConstants.{MAX_BUDGET}
use Rattle.service_model.specs.declared.plan.Plan.{Plan}
use Rattle.service_model.specs.Net.{Net}
use Rattle.service_model.specs.Plans.{Feasible, HasTimes}
use Rattle.stage_file.specs.declared.raw.Files.{Files}
use Rattle.stage_file.specs.Records.{AreCountable}
use Rattle.tree_order.specs.Forest.{IsForest}
use Rattle.network_check.specs.Budgets.{keeps_budget}
use Rattle.network_check.specs.Checked.{IsChecked}
use Rattle.script_run.specs.Sizes.{MayGrow}
use Rattle.request_files.specs.declared.files.TheConstants.{FILE_LIMIT, CERT_LIMIT}
use Rattle.command_words.specs.declared.command.Command.{Command}
use Rattle.command_words.specs.declared.command.Command.TheVariants as command
use Rattle.planner_top.specs.declared.task.Task.{Task}
use Rattle.planner_top.specs.declared.task.Report.{Report}
use Rattle.planner_top.specs.declared.task.Detail.{Detail}
use Rattle.planner_top.specs.declared.task.Task.TheVariants as task
use Rattle.planner_top.specs.declared.task.Report.TheVariants as report
use Rattle.planner_top.specs.declared.task.Detail.TheVariants as detail

-- as many rows as a file that is read may have
abbrev pub AreReadRows : List (List (List ℕ)) → Type 0
AreReadRows rows = length rows ≤ FILE_LIMIT + 1

-- so many has each of the three files
pub record AreReadFiles (files : Files) : Type 0 where
  pub stages : AreReadRows files.stages
  pub tables : AreReadRows files.tables
  pub arcs : AreReadRows files.arcs

-- a budget that a search of the network may have
pub record IsBudget (n : Net) (budget : ℕ) : Type 0 where
  pub some : 1 ≤ budget
  pub most : budget ≤ MAX_BUDGET
  pub keeps : IsTrue (keeps_budget n budget)

-- a network that is told of as a trial has a feasible plan
abbrev pub MayBeTold : Report → Net → Type 0
MayBeTold report.Stages n = ⊤
MayBeTold (report.Trial seed) n = (p : Plan) × Feasible n p

-- what is known of a task
abbrev pub IsReady : Task → Type 0
IsReady (task.Solve c f budget how) =
    IsChecked c × IsForest (length c.network.stages) c.network.arcs f × IsBudget c.network budget × MayBeTold how c.network
IsReady (task.Audit c plan) = IsChecked c × HasTimes c.network plan
IsReady (task.Check c bytes d) = IsChecked c × (length bytes ≤ CERT_LIMIT)
IsReady (task.Clusters c) = IsChecked c
IsReady (task.Session s script) = AreCountable script × AreReadRows script × MayGrow s.files (length script)

-- the command that tells of a search so
abbrev pub search_command : Report → Command
search_command report.Stages = command.Solve
search_command (report.Trial seed) = command.Trial

-- the command that tells of a certificate so
abbrev pub check_command : Detail → Command
check_command detail.Verdict = command.Check
check_command detail.Explanation = command.Explain

-- the command that asks for a task
abbrev pub command_of : Task → Command
command_of (task.Solve c f budget how) = search_command how
command_of (task.Audit c plan) = command.Audit
command_of (task.Check c bytes d) = check_command d
command_of (task.Clusters c) = command.Clusters
command_of (task.Session s script) = command.Session
