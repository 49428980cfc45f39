-- The first rule that fails on files and the budget that is asked.
use Rattle.std.specs.Prelude.{◌≡◌, ℕ, ◌+◌, ◌*◌, ◌≤◌, nat_le, length, Option, Some, None, MatchOption, IfSome, Result, Ok, Err, ⊤, if◌then◌else◌}
use Rattle.service_model.specs.declared.cert_rules.TheConstants.{MAX_BUDGET}
use Rattle.stage_file.specs.declared.raw.Files.{Files}
use Rattle.stage_file.specs.declared.raw.RawNet.{RawNet}
use Rattle.stage_file.specs.declared.fault.FileFault.{FileFault}
use Rattle.stage_file.specs.declared.fault.FileKind.TheVariants.{Words}
use Rattle.stage_file.specs.declared.fault.ReadFault.{ReadFault}
use Rattle.stage_file.specs.declared.fault.ReadFault.TheVariants.{Fault, NoMemory}
use Rattle.stage_file.specs.declared.rules.TheConstants.{BUDGET}
use Rattle.stage_file.specs.Faults.{fault_of}
use Rattle.stage_file.specs.Raw.{raw_of}
use Rattle.network_check.specs.declared.budget.TheConstants.{MOST_VALUES}
use Rattle.network_check.specs.Budgets.{IsBudgetOf}
use Rattle.network_check.specs.Checked.{IsNetworkOf, IsChecked}
use Rattle.network_check.specs.Refusals.{IsFirstRefusal}
use Rattle.edit_reuse.specs.declared.budget.Budgeted.{Budgeted}

-- the budget that is asked may take too many values: one for each of its ranges, each stage and each time up to the horizon
abbrev pub budget_fault : RawNet → Option ℕ → Option FileFault
budget_fault raw None = None
budget_fault raw (Some ranges) =
    if nat_le (ranges * (length raw.stages * (raw.horizon + 1))) MOST_VALUES then None else Some (fault_of Words 0 BUDGET 0)

-- the first rule that fails on files under a horizon, the one on the budget that is asked last; none where all hold
abbrev pub IsFirstRefused : ℕ → Option ℕ → Files → Option FileFault → Type 0
IsFirstRefused horizon asked files fault =
    (before : Option FileFault) × IsFirstRefusal horizon files before
    × MatchOption before (fault ≡ budget_fault (raw_of horizon files) asked) (λ f. fault ≡ Some f)

-- the ranges that are asked, if some are, are as many as a search may have
abbrev pub IsAsked : Option ℕ → Type 0
IsAsked asked = IfSome asked (λ n. (1 ≤ n) × (n ≤ MAX_BUDGET))

-- no rule fails on files, and these are their network and its budget
pub record AreBudgeted (horizon : ℕ) (asked : Option ℕ) (files : Files) (made : Budgeted) : Type 0 where
  pub holds : IsFirstRefused horizon asked files None
  pub network : IsNetworkOf (raw_of horizon files) made.checked
  pub checked : IsChecked made.checked
  pub budget_is : IsBudgetOf made.checked.network asked (Ok made.budget)

-- what a call gives that makes the network of files with its budget: both, or the first rule that fails
abbrev pub BudgetedCase : ℕ → Option ℕ → Files → Result Budgeted ReadFault → Type 0
BudgetedCase horizon asked files (Ok made) = AreBudgeted horizon asked files made
BudgetedCase horizon asked files (Err (Fault f)) = IsFirstRefused horizon asked files (Some f)
BudgetedCase horizon asked files (Err NoMemory) = ⊤
