-- The budget of ranges: it is one, a search may have it, and its tables are few.
use Rattle.std.proofs.Common.{◌≡◌, ◌<◌, ◌≤◌, ◌⊎◌, ℕ, ◌+◌, ◌*◌, Bool, true, false, length, Option, Some, None, Ok, Err, refl, sym, ap, subst, ◌∙◌, arith, inl, inr}
use Rattle.std.specs.Prelude.{nat_le, IsTrue, if◌then◌else◌}
use Rattle.std.proofs.lemmas.Bool.{leb-true, leb-false, cases_lt}
use Rattle.std.proofs.Math.Nat.{mul-le-mul_left, mul-le-mul_right, le-mul_of_pos_right}
use Rattle.service_model.specs.Net.{Net}
use Rattle.stage_file.specs.declared.raw.RawNet.{RawNet}
use Rattle.stage_file.specs.declared.fault.FileFault.{FileFault}
use Rattle.stage_file.specs.declared.fault.FileKind.TheVariants.{Words}
use Rattle.stage_file.specs.declared.rules.TheConstants.{BUDGET}
use Rattle.stage_file.specs.Faults.{fault_of}
use Rattle.network_check.specs.declared.budget.TheConstants.{DEFAULT_BUDGET, MOST_VALUES}
use Rattle.network_check.specs.Budgets.{range_values, keeps_budget, IsDefaultBudget, IsBudgetOf}
use Rattle.planner_top.specs.declared.filled.TheConstants.{MOST_FILLED}
use Rattle.command_words.specs.Requests.{IsRanges}
use Rattle.edit_reuse.specs.Refusals.{budget_fault}
use Rattle.planner_top.specs.Ready.{IsBudget}

-- the default budget is not below another
default_most : (n : Net) (a b : ℕ) → IsDefaultBudget n a → IsDefaultBudget n b → (a ≡ DEFAULT_BUDGET) ⊎ (keeps_budget n (a + 1) ≡ false) → (a < b) ⊎ (b ≤ a) → b ≤ a
default_most n a b one other most (inr low) = low
default_most n a b one other (inl most) (inl high) = (let few = other.few in omega (arith, most, few))
default_most n a b one other (inr full) (inl high) =
    let over = leb-false ((a + 1) * range_values n) MOST_VALUES full in
    let under = leb-true (b * range_values n) MOST_VALUES other.keeps in
    let next : a + 1 ≤ b = omega (arith, high) in
    let more = mul-le-mul_right (range_values n) next in
    absurd (less_not (b * range_values n) ((a + 1) * range_values n) MOST_VALUES under over more)
  where
    less_not : (x y z : ℕ) → x ≤ z → z < y → y ≤ x → ⊥
    less_not x y z under over more = omega (arith, under, over, more)

one_default : (n : Net) (a b : ℕ) → IsDefaultBudget n a → IsDefaultBudget n b → a ≡ b
one_default n a b one other =
    let low = default_most n a b one other one.most (cases_lt a b) in
    let high = default_most n b a other one other.most (cases_lt b a) in
    omega (arith, low, high)

-- a budget is one, the one that is asked for or the default
pub one_budget : (n : Net) (asked : Option ℕ) (a b : ℕ) → IsBudgetOf n asked (Ok a) → IsBudgetOf n asked (Ok b) → a ≡ b
one_budget n None a b one other = one_default n a b one other
one_budget n (Some ranges) a b one other = one.0 ∙ sym other.0

-- a search may have it
pub budget_may : (n : Net) (asked : Option ℕ) (b : ℕ) → IsRanges asked → IsBudgetOf n asked (Ok b) → IsBudget n b
budget_may n None b ranges is = record { some = is.some; most = (let few = is.few in omega (arith, few)); keeps = is.keeps }
budget_may n (Some k) b ranges is = record {
  some = (let some = ranges.0 in let same = is.0 in omega (arith, some, same));
  most = (let most = ranges.1 in let same = is.0 in omega (arith, most, same));
  keeps = subst (λ (x : ℕ). IsTrue (keeps_budget n x)) (sym is.0) is.1;
}

-- a table for each stage and each range is few
pub few_tables : (n : Net) (b : ℕ) → IsBudget n b → b * length n.stages ≤ MOST_FILLED
few_tables n b is =
    let keeps = leb-true (b * range_values n) MOST_VALUES is.keeps in
    let some : 0 < n.horizon + 1 = omega arith in
    let stages : length n.stages ≤ length n.stages * (n.horizon + 1) = le-mul_of_pos_right (length n.stages) some in
    let all = mul-le-mul_left b stages in
    within (b * length n.stages) (b * range_values n) all keeps
  where
    within : (x y : ℕ) → x ≤ y → y ≤ MOST_VALUES → x ≤ MOST_FILLED
    within x y low high = omega (arith, low, high)

abbrev too_much : Option FileFault
too_much = Some (fault_of Words 0 BUDGET 0)

-- the rule on the budget of a network of records, by their numbers of stages and their horizon
pub budget_holds : (raw : RawNet) (n : Net) (asked : Option ℕ) (b : ℕ) → length n.stages ≡ length raw.stages → n.horizon ≡ raw.horizon → IsBudgetOf n asked (Ok b) → budget_fault raw asked ≡ None
budget_holds raw n None b stages horizon is = refl
budget_holds raw n (Some k) b stages horizon is =
    let keeps : nat_le (k * (length raw.stages * (raw.horizon + 1))) MOST_VALUES ≡ true =
    subst (λ (x : ℕ). nat_le (k * (length raw.stages * (x + 1))) MOST_VALUES ≡ true) horizon
    (subst (λ (x : ℕ). nat_le (k * (x * (n.horizon + 1))) MOST_VALUES ≡ true) stages is.1) in
    ap (λ (x : Bool). if x then None else too_much) keeps

pub budget_fails : (raw : RawNet) (n : Net) (asked : Option ℕ) (fault : FileFault) → length n.stages ≡ length raw.stages → n.horizon ≡ raw.horizon → IsBudgetOf n asked (Err fault)
    → budget_fault raw asked ≡ Some fault
budget_fails raw n None fault stages horizon is = absurd is
budget_fails raw n (Some k) fault stages horizon is =
    let breaks : nat_le (k * (length raw.stages * (raw.horizon + 1))) MOST_VALUES ≡ false =
    subst (λ (x : ℕ). nat_le (k * (length raw.stages * (x + 1))) MOST_VALUES ≡ false) horizon
    (subst (λ (x : ℕ). nat_le (k * (x * (n.horizon + 1))) MOST_VALUES ≡ false) stages is.1) in
    ap (λ (x : Bool). if x then None else too_much) breaks ∙ ap Some (sym is.0)
