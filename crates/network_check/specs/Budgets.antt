-- The budget of ranges: the one that is asked, or the default, within what memory holds.
use Rattle.std.specs.Prelude.{◌≡◌, ℕ, ◌+◌, ◌*◌, ◌≤◌, Bool, false, nat_le, IsTrue, length, Option, Some, None, Result, Ok, Err, ◌⊎◌}
use Rattle.service_model.specs.Net.{Net}
use Rattle.stage_file.specs.declared.fault.FileFault.{FileFault}
use Rattle.stage_file.specs.declared.fault.FileKind.TheVariants.{Words}
use Rattle.stage_file.specs.declared.rules.TheConstants.{BUDGET}
use Rattle.stage_file.specs.Faults.{fault_of}
use Rattle.network_check.specs.declared.budget.TheConstants.{DEFAULT_BUDGET, MOST_VALUES}

-- the most values that the tables of a range have: one for each stage and each time up to the horizon
abbrev pub range_values : Net → ℕ
range_values n = length n.stages * (n.horizon + 1)

-- the values of so many ranges keep the limit
abbrev pub keeps_budget : Net → ℕ → Bool
keeps_budget n ranges = nat_le (ranges * range_values n) MOST_VALUES

-- the default budget is the largest up to the usual one that keeps the limit
pub record IsDefaultBudget (n : Net) (budget : ℕ) : Type 0 where
  pub some : 1 ≤ budget
  pub few : budget ≤ DEFAULT_BUDGET
  pub keeps : IsTrue (keeps_budget n budget)
  pub most : (budget ≡ DEFAULT_BUDGET) ⊎ (keeps_budget n (budget + 1) ≡ false)

-- the budget that is asked is taken where it keeps the limit, and refused exactly where it does not; where none is asked it is the default
abbrev pub IsBudgetOf : Net → Option ℕ → Result ℕ FileFault → Type 0
IsBudgetOf n (Some asked) (Ok budget) = (budget ≡ asked) × IsTrue (keeps_budget n asked)
IsBudgetOf n (Some asked) (Err fault) = (fault ≡ fault_of Words 0 BUDGET 0) × (keeps_budget n asked ≡ false)
IsBudgetOf n None (Ok budget) = IsDefaultBudget n budget
IsBudgetOf n None (Err fault) = ⊥
