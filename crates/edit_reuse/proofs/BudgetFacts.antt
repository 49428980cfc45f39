-- The budget of a network of files, and the rule on it.
use Rattle.std.proofs.Common.{◌≡◌, ◌<◌, ◌≤◌, ℕ, ◌+◌, ◌*◌, Bool, true, false, length, Option, Some, None, Ok, Err, refl, sym, ap, subst, ◌∙◌, arith}
use Rattle.std.specs.Prelude.{nat_le, IsTrue}
use Rattle.std.proofs.lemmas.Bool.{leb-true}
use Rattle.std.proofs.lemmas.List.{length-map}
use Rattle.std.proofs.Math.Nat.{mul-le-mul_left, le-mul_of_pos_right}
use Rattle.service_model.specs.declared.cert_rules.TheConstants.{MAX_BUDGET}
use Rattle.stage_file.specs.declared.raw.Files.{Files}
use Rattle.stage_file.specs.declared.raw.RawNet.{RawNet}
use Rattle.stage_file.specs.declared.stages.StageRow.{StageRow}
use Rattle.stage_file.specs.declared.fault.FileFault.{FileFault}
use Rattle.stage_file.specs.declared.fault.ReadFault.{ReadFault}
use Rattle.stage_file.specs.declared.fault.ReadFault.TheVariants.{Fault, NoMemory}
use Rattle.stage_file.specs.Raw.{raw_of, raw_fault}
use Rattle.network_check.specs.declared.budget.TheConstants.{MOST_VALUES}
use Rattle.network_check.specs.declared.checked.Checked.{Checked}
use Rattle.network_check.specs.Budgets.{range_values, keeps_budget, IsBudgetOf}
use Rattle.network_check.specs.Checked.{IsNetworkOf, IsChecked}
use Rattle.network_check.specs.Refusals.{IsFirstRefusal, FilesCase}
use Rattle.edit_reuse.specs.Refusals.{budget_fault, IsFirstRefused, IsAsked, AreBudgeted, BudgetedCase}
use Rattle.edit_reuse.specs.declared.budget.Budgeted.{Budgeted}

-- the network of records has as many stages as they
stages_are : (raw : RawNet) (c : Checked) → IsNetworkOf raw c → IsChecked c → length c.network.stages ≡ length raw.stages
stages_are raw c is checked =
    sym checked.names ∙ ap (λ (x : Checked). length x.names) is.made ∙ length-map raw.stages (λ (s : StageRow). s.name)

-- and their horizon
horizon_is : (raw : RawNet) (c : Checked) → IsNetworkOf raw c → c.network.horizon ≡ raw.horizon
horizon_is raw c is = ap (λ (x : Checked). x.network.horizon) is.made

-- the budget is kept by the network where it is by the records
same_test : (raw : RawNet) (c : Checked) (k : ℕ) (kept : Bool) → IsNetworkOf raw c → IsChecked c → keeps_budget c.network k ≡ kept → nat_le (k * (length raw.stages * (raw.horizon + 1))) MOST_VALUES ≡ kept
same_test raw c k kept is checked test =
    subst (λ (x : ℕ). nat_le (k * (length raw.stages * (x + 1))) MOST_VALUES ≡ kept) (horizon_is raw c is)
    (subst (λ (x : ℕ). nat_le (k * (x * (c.network.horizon + 1))) MOST_VALUES ≡ kept) (stages_are raw c is checked) test)

budget_holds : (raw : RawNet) (c : Checked) (asked : Option ℕ) (b : ℕ) → IsNetworkOf raw c → IsChecked c → IsBudgetOf c.network asked (Ok b) → None ≡ budget_fault raw asked
budget_holds raw c None b is checked budgeted = refl
budget_holds raw c (Some k) b is checked budgeted =
    let kept = same_test raw c k true is checked budgeted.1 in
    rw kept refl

budget_fails : (raw : RawNet) (c : Checked) (asked : Option ℕ) (fault : FileFault) → IsNetworkOf raw c → IsChecked c → IsBudgetOf c.network asked (Err fault) → Some fault ≡ budget_fault raw asked
budget_fails raw c None fault is checked budgeted = absurd budgeted
budget_fails raw c (Some k) fault is checked budgeted =
    let broken = same_test raw c k false is checked budgeted.1 in
    rw broken (ap (λ (f : FileFault). Some f) budgeted.0)

-- files whose network keeps its budget
pub are_budgeted : (horizon : ℕ) (asked : Option ℕ) (files : Files) (c : Checked) (b : ℕ) → FilesCase horizon files (Ok c) → IsBudgetOf c.network asked (Ok b)
    → AreBudgeted horizon asked files (record { checked = c; budget = b })
are_budgeted horizon asked files c b made budgeted = record {
  holds = (None, made.0, budget_holds (raw_of horizon files) c asked b made.1 made.2 budgeted);
  network = made.1;
  checked = made.2;
  budget_is = budgeted;
}

-- files whose network does not
pub budget_refused : (horizon : ℕ) (asked : Option ℕ) (files : Files) (c : Checked) (fault : FileFault) → FilesCase horizon files (Ok c) → IsBudgetOf c.network asked (Err fault)
    → IsFirstRefused horizon asked files (Some fault)
budget_refused horizon asked files c fault made budgeted = (None, made.0, budget_fails (raw_of horizon files) c asked fault made.1 made.2 budgeted)

-- files on which a rule fails before
pub file_refused : (horizon : ℕ) (asked : Option ℕ) (files : Files) (e : ReadFault) → FilesCase horizon files (Err e) → BudgetedCase horizon asked files (Err e)
file_refused horizon asked files (Fault f) case = (Some f, case, refl)
file_refused horizon asked files NoMemory case = tt

-- where no rule fails on files, none of one file does
file_holds_if : (f : Option FileFault) (horizon : ℕ) (files : Files) → raw_fault horizon files ≡ f → IsFirstRefusal horizon files None → raw_fault horizon files ≡ None
file_holds_if None horizon files is first = is
file_holds_if (Some fault) horizon files is first = (let some = rw is at first in cc)

none_before : (horizon : ℕ) (asked : Option ℕ) (files : Files) → IsFirstRefused horizon asked files None → raw_fault horizon files ≡ None
none_before horizon asked files (None, first, last) = file_holds_if (raw_fault horizon files) horizon files refl first
none_before horizon asked files (Some fault, first, last) = cc

pub files_hold : (horizon : ℕ) (asked : Option ℕ) (files : Files) (made : Budgeted) → AreBudgeted horizon asked files made → raw_fault horizon files ≡ None
files_hold horizon asked files made are = none_before horizon asked files are.holds

-- a search may have the budget
pub budget_some : (c : Checked) (asked : Option ℕ) (b : ℕ) → IsAsked asked → IsBudgetOf c.network asked (Ok b) → (1 ≤ b) × (b ≤ MAX_BUDGET)
budget_some c None b asked is = (is.some, (let few = is.few in omega (arith, few)))
budget_some c (Some k) b asked is = (let same = is.0 in (omega (arith, asked.0, same), omega (arith, asked.1, same)))

keeps : (c : Checked) (asked : Option ℕ) (b : ℕ) → IsBudgetOf c.network asked (Ok b) → IsTrue (keeps_budget c.network b)
keeps c None b is = is.keeps
keeps c (Some k) b is = subst (λ (x : ℕ). IsTrue (keeps_budget c.network x)) (sym is.0) is.1

-- a table for each stage and each range is few
pub few_tables : (c : Checked) (asked : Option ℕ) (b : ℕ) → IsBudgetOf c.network asked (Ok b) → b * length c.network.stages ≤ MOST_VALUES
few_tables c asked b is =
    let all = leb-true (b * range_values c.network) MOST_VALUES (keeps c asked b is) in
    let some : 0 < c.network.horizon + 1 = omega arith in
    let stages : length c.network.stages ≤ range_values c.network = le-mul_of_pos_right (length c.network.stages) some in
    within (b * length c.network.stages) (b * range_values c.network) (mul-le-mul_left b stages) all
  where
    within : (x y : ℕ) → x ≤ y → y ≤ MOST_VALUES → x ≤ MOST_VALUES
    within x y low high = omega (arith, low, high)
