-- The rule on entries, one stage further.
use Rattle.std.proofs.Common.{◌≡◌, ℕ, suc, ◌+◌, ◌<◌, ◌≤◌, Bool, false, ◌||◌, nat_lt, Option, Some, None, List, [], length, get_or, refl, sym, ap, arith, add-one, ◌∙◌}
use Rattle.std.specs.List.{list_any}
use Rattle.std.proofs.lemmas.List.{get_or_default}
use Rattle.std.proofs.lemmas.Bool.Decides.{nat_tests}
use Rattle.service_model.specs.declared.limits.TheConstants.{INF, MAX_PLAN_COST}
use Rattle.service_model.specs.declared.faults.TheConstants.{COST_ENTRY}
use Rattle.service_model.specs.declared.faults.NetworkFault.{NetworkFault}
use Rattle.service_model.specs.declared.stage.Stage.{Stage}
use Rattle.service_model.specs.declared.stage.SupplyArc.{SupplyArc}
use Rattle.service_model.specs.Net.{net_of, no_stage}
use Rattle.service_model.specs.Search.{first_below}
use Rattle.service_model.specs.Faults.{fails_if, fails_below, has_bad_entry, tops_below, top_of}
use Rattle.service_model.proofs.FaultFacts.{no_fault}
use Rattle.service_model.proofs.SearchFacts.{first_below_step, first_below_found}

-- the rule on entries at one stage
abbrev pub entry_rule : ℕ → List Stage → List SupplyArc → ℕ → Option NetworkFault
entry_rule horizon stages arcs j = fails_if COST_ENTRY (has_bad_entry (net_of horizon stages arcs) j) j

-- no stage of the first ones breaks it, whatever the horizon and the arcs
abbrev pub NoneSoFar : List Stage → ℕ → Type 0
NoneSoFar stages j = (horizon : ℕ) (arcs : List SupplyArc) → first_below (entry_rule horizon stages arcs) j ≡ None

-- what the code tests at a stage
abbrev pub entry_test : List ℕ → ℕ → Bool
entry_test cost tops = list_any (nat_lt INF) cost || nat_lt MAX_PLAN_COST tops

-- the cost list of a stage, whatever stands for one that there is not
cost_at : (stages : List Stage) (j : ℕ) (d : Stage) (cost : List ℕ) → cost ≡ (get_or stages j d).cost → j < length stages → cost ≡ (get_or stages j no_stage).cost
cost_at stages j d cost same within = same ∙ ap (λ (s : Stage). s.cost) (get_or_default stages j d no_stage within)

-- a stage more, whose greatest entry is added to the sum
pub tops_more : (stages : List Stage) (j tops : ℕ) (d : Stage) (cost : List ℕ) → cost ≡ (get_or stages j d).cost → j < length stages → tops ≡ tops_below (net_of 0 stages []) j → tops + top_of cost ≡ tops_below (net_of 0 stages []) (j + 1)
tops_more stages j tops d cost same within so_far =
    let top : top_of cost ≡ top_of (get_or stages j no_stage).cost = ap top_of (cost_at stages j d cost same within) in
    let more : tops_below (net_of 0 stages []) (j + 1) ≡ top_of (get_or stages j no_stage).cost + tops_below (net_of 0 stages []) j = rw add-one refl in
    omega (arith, top, more, so_far)

tested : (horizon : ℕ) (stages : List Stage) (arcs : List SupplyArc) (j : ℕ) → entry_test (get_or stages j no_stage).cost (tops_below (net_of 0 stages []) (suc j)) ≡ has_bad_entry (net_of horizon stages arcs) j
unfolding has_bad_entry
tested horizon stages arcs j = refl

pub entry_rule_is : (stages : List Stage) (j tops : ℕ) (d : Stage) (cost : List ℕ) → cost ≡ (get_or stages j d).cost → j < length stages → tops ≡ tops_below (net_of 0 stages []) (j + 1) → (horizon : ℕ) (arcs : List SupplyArc) → fails_if COST_ENTRY (entry_test cost tops) j ≡ entry_rule horizon stages arcs j
entry_rule_is stages j tops d cost same within sum horizon arcs =
    let at : cost ≡ (get_or stages j no_stage).cost = cost_at stages j d cost same within in
    let sum_at : tops ≡ tops_below (net_of 0 stages []) (suc j) = rw add-one at sum in
    rw (at, sum_at, tested horizon stages arcs j) refl

-- where the rule holds, the sum is still small
pub tops_small : (cost : List ℕ) (tops j : ℕ) → fails_if COST_ENTRY (entry_test cost tops) j ≡ None → tops ≤ MAX_PLAN_COST
tops_small cost tops j none =
    let holds : entry_test cost tops ≡ false = no_fault COST_ENTRY (entry_test cost tops) j none in
    grind (arith, nat_tests)

pub none_more : (stages : List Stage) (j : ℕ) → NoneSoFar stages j → ((horizon : ℕ) (arcs : List SupplyArc) → entry_rule horizon stages arcs j ≡ None) → NoneSoFar stages (j + 1)
none_more stages j before here = λ horizon arcs. first_below_step (entry_rule horizon stages arcs) j (before horizon arcs) ∙ here horizon arcs

-- the first stage that breaks it
pub first_entry_fault : (stages : List Stage) (j : ℕ) (fault : NetworkFault) → NoneSoFar stages j → j < length stages → ((horizon : ℕ) (arcs : List SupplyArc) → entry_rule horizon stages arcs j ≡ Some fault) → (horizon : ℕ) (arcs : List SupplyArc) → Some fault ≡ fails_below COST_ENTRY (has_bad_entry (net_of horizon stages arcs)) (length stages)
unfolding fails_below
first_entry_fault stages j fault before within here horizon arcs = sym (first_below_found (entry_rule horizon stages arcs) (length stages) j fault (before horizon arcs) within (here horizon arcs))

pub no_entry_fault : (stages : List Stage) (j : ℕ) → NoneSoFar stages j → j ≡ length stages → (horizon : ℕ) (arcs : List SupplyArc) → None ≡ fails_below COST_ENTRY (has_bad_entry (net_of horizon stages arcs)) (length stages)
unfolding fails_below
no_entry_fault stages j before all horizon arcs = rw (← all) (sym (before horizon arcs))
