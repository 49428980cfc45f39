-- A network is solved, or the first rule that fails behind those on the network.
use Rattle.std.proofs.Common.{◌≡◌, ℕ, length, Option, Ok, Err, refl, ap}
use Rattle.stage_file.specs.declared.raw.RawNet.{RawNet}
use Rattle.stage_file.specs.declared.fault.FileFault.{FileFault}
use Rattle.tree_order.specs.declared.forest.Forest.{Forest}
use Rattle.tree_order.specs.Forest.{IsForest, IsOnlyForest}
use Rattle.network_check.specs.Budgets.{IsBudgetOf}
use Rattle.network_check.specs.declared.checked.Checked.{Checked}
use Rattle.network_check.specs.Checked.{IsNetworkOf, IsChecked}
use Rattle.planner_top.specs.declared.task.Report.{Report}
use Rattle.planner_top.specs.declared.task.Task.TheVariants as task
use Rattle.planner_top.specs.declared.stop.Stop.TheVariants as stop
use Rattle.planner_top.specs.declared.stop.Unsolved.TheVariants as unsolved
use Rattle.command_words.specs.Requests.{IsRanges}
use Rattle.planner_top.specs.TaskCases.{SearchCase}
use Rattle.planner_top.specs.Ready.{MayBeTold}
use Rattle.planner_top.proofs.BudgetFacts.{budget_may, budget_holds, budget_fails}
use Rattle.planner_top.proofs.TaskFacts.{stages_are, forest_in}

horizon_is : (raw : RawNet) (c : Checked) → IsNetworkOf raw c → c.network.horizon ≡ raw.horizon
horizon_is raw c is = ap (λ (x : Checked). x.network.horizon) is.made

-- a network whose budget is kept is solved
pub solve_last : (ranges : Option ℕ) (raw : RawNet) (how : Report) (c : Checked) (f : Forest) (budget : ℕ) → IsRanges ranges → IsNetworkOf raw c → IsChecked c → MayBeTold how c.network
    → IsForest (length c.network.stages) c.network.arcs f → IsOnlyForest (length c.network.stages) c.network.arcs f → IsBudgetOf c.network ranges (Ok budget)
    → SearchCase ranges raw how (Ok (task.Solve c f budget how))
solve_last ranges raw how c f budget some is checked told forest only budgeted = (
  budget_holds raw c.network ranges budget (stages_are raw c is checked) (horizon_is raw c is) budgeted,
  record { checked = c; network = is; forest = f; forest_in = forest_in raw c f is checked forest only; budget = budget; budget_is = budgeted; task_is = refl },
  (checked, forest, budget_may c.network ranges budget some budgeted, told),
)

-- one whose budget takes too many values is refused
pub budget_refused : (ranges : Option ℕ) (raw : RawNet) (how : Report) (c : Checked) (fault : FileFault) → IsNetworkOf raw c → IsChecked c → IsBudgetOf c.network ranges (Err fault)
    → SearchCase ranges raw how (Err (unsolved.Stop (stop.Refused fault)))
budget_refused ranges raw how c fault is checked budgeted = budget_fails raw c.network ranges fault (stages_are raw c is checked) (horizon_is raw c is) budgeted
