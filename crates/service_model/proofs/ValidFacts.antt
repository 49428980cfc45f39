-- On a network that keeps all limits no rule fails but the one on cycles.
use Rattle.std.proofs.Common.{◌≡◌, ℕ, suc, ◌<◌, ◌≤◌, ◌||◌, ◌&&◌, ◌==◌, Bool, false, eqb, ltb, nat_lt, Option, Some, None, List, [], ◌∷◌, length, get_or, take, refl, sym, ◌∙◌, arith}
use Rattle.std.specs.List.{position_or_len, list_any}
use Rattle.std.specs.Prelude.{option_map}
use Rattle.std.proofs.lemmas.List.Folds.{list_any_none}
use Rattle.std.proofs.lemmas.List.{get_or-take, get_or_default, length-take}
use Rattle.std.proofs.lemmas.Bool.Decides.{nat_tests}
use Rattle.service_model.specs.declared.limits.TheConstants.{INF, MAX_HORIZON, MAX_STAGES, MAX_ARCS, MAX_TIME, MAX_PLAN_COST}
use Rattle.service_model.specs.declared.faults.TheConstants.{LONG_HORIZON, STAGE_COUNT, STAGE_TIMES, COST_LENGTH, COST_ENTRY, ARC_COUNT, ARC_ENDS, ARC_TWICE, ON_CYCLE, LONG_TRANSIT}
use Rattle.service_model.specs.declared.faults.NetworkFault.{NetworkFault}
use Rattle.service_model.specs.declared.stage.Stage.{Stage}
use Rattle.service_model.specs.declared.stage.SupplyArc.{SupplyArc}
use Rattle.service_model.specs.Net.{Net, stage_at, arc_in, no_stage, no_arc}
use Rattle.service_model.specs.Walks.{NoCycle, IsFirstOnCycle}
use Rattle.service_model.specs.Search.{first_of}
use Rattle.service_model.specs.Faults.{fault_at, fails_if, fails_at, fails_below, has_bad_times, has_bad_length, has_bad_entry, has_bad_ends, same_ends, IsSameEnds, stands_twice, has_long_transit, tops_below, top_of, rules_before_cycle, rules_from_cycle, FirstFromCycle, IsFirstFault}
use Rattle.service_model.specs.Networks.{StageWithin, ArcWithin, IsNetwork, KeepsLimits}
use Rattle.service_model.proofs.SearchFacts.{AllNone, below_none, sum_below_grows}

first_of_all_none : {A : Type 0} (xs : List (Option A)) → AllNone xs → first_of xs ≡ None
first_of_all_none [] all = refl
first_of_all_none (None ∷ xs) all = first_of_all_none xs all.1
first_of_all_none (Some x ∷ xs) all = all.0

holds : (rule : ℕ) (fails : Bool) (place : ℕ) → fails ≡ false → fails_if rule fails place ≡ None
unfolding fails_if
holds rule fails place e = rw e refl

nowhere : {A : Type 0} (p : A → Bool) (xs : List A) → ((k : ℕ) (d : A) → k < length xs → p (get_or xs k d) ≡ false) → position_or_len p xs ≡ length xs
nowhere p [] each = refl
nowhere p (x ∷ xs) each =
    let here : p x ≡ false = each 0 x (omega arith) in
    let rest : position_or_len p xs ≡ length xs = nowhere p xs (λ k d l. each (suc k) d (omega arith)) in
    rw here (omega (arith, rest))

not_below : (n : ℕ) → ltb n n ≡ false
not_below n = grind (arith, nat_tests)

holds_at : {A : Type 0} (rule : ℕ) (p : A → Bool) (xs : List A) → ((k : ℕ) (d : A) → k < length xs → p (get_or xs k d) ≡ false) → fails_at rule p xs ≡ None
unfolding fails_at
holds_at rule p xs each = rw (nowhere p xs each, not_below (length xs)) refl

holds_below : (rule : ℕ) (p : ℕ → Bool) (n : ℕ) → ((k : ℕ) → k < n → p k ≡ false) → fails_below rule p n ≡ None
unfolding fails_below
holds_below rule p n each = below_none (λ k. fails_if rule (p k) k) n (λ k l. holds rule (p k) k (each k l))

good_times : (h : ℕ) (s : Stage) → StageWithin h s → has_bad_times h s ≡ false
unfolding has_bad_times
good_times h s w = let a = w.lead in let b = w.supply in let c = w.most in let d = w.least in grind (arith, nat_tests)

good_length : (h : ℕ) (s : Stage) → StageWithin h s → has_bad_length h s ≡ false
unfolding has_bad_length
good_length h s w = let a = w.some_cost in let b = w.cost_length in grind (arith, nat_tests)

small : (a b : ℕ) → b ≤ a → ltb a b ≡ false
small a b le = grind (arith, nat_tests)

good_entry : (n : Net) (j : ℕ) → KeepsLimits n → j < length n.stages → has_bad_entry n j ≡ false
unfolding has_bad_entry
good_entry n j valid within =
    let entries = (valid.stages j within).entries in
    let none : list_any (nat_lt INF) (stage_at n j).cost ≡ false = list_any_none (nat_lt INF) (stage_at n j).cost (λ k d l. small INF _ (entries k d l)) in
    let few : tops_below n (suc j) ≤ MAX_PLAN_COST = (let grown = sum_below_grows (λ i. top_of (stage_at n i).cost) (suc j) (length n.stages) (omega arith) in let all = valid.payable in omega arith) in
    rw (none, small MAX_PLAN_COST (tops_below n (suc j)) few) refl

good_ends : (stages : ℕ) (a : SupplyArc) → ArcWithin stages a → has_bad_ends stages a ≡ false
unfolding has_bad_ends
good_ends stages a w = let s = w.supplier in let c = w.customer in let d = w.apart in grind (arith, nat_tests)

good_transit : (stages : ℕ) (a : SupplyArc) → ArcWithin stages a → has_long_transit a ≡ false
unfolding has_long_transit
good_transit stages a w = small MAX_TIME a.transit w.transit

apart : (p q r s : ℕ) → ((p ≡ r) × (q ≡ s) → ⊥) → (eqb p r && eqb q s) ≡ false
apart p q r s differ = grind (arith, nat_tests, differ)

not_same : (a b : SupplyArc) → (IsSameEnds b a → ⊥) → same_ends a b ≡ false
not_same a b differ = apart a.supplier a.customer b.supplier b.customer (λ same. differ (sym same.0, sym same.1))

good_once : (n : Net) (a : ℕ) → KeepsLimits n → a < length n.arcs → stands_twice n.arcs a ≡ false
unfolding stands_twice
good_once n a valid within =
    list_any_none (same_ends (arc_in n.arcs a)) (take a n.arcs) (λ k d l.
    let low : k < a = omega (arith, l, length-take {A = SupplyArc}) in
    let there : get_or (take a n.arcs) k d ≡ arc_in n.arcs k = get_or-take a n.arcs k d low ∙ get_or_default n.arcs k d no_arc (omega arith) in
    rw there (not_same (arc_in n.arcs a) (arc_in n.arcs k) (valid.once k a low within)))

at_stage : (n : Net) (k : ℕ) (d : Stage) → k < length n.stages → get_or n.stages k d ≡ stage_at n k
at_stage n k d within = get_or_default n.stages k d no_stage within

at_arc : (n : Net) (k : ℕ) (d : SupplyArc) → k < length n.arcs → get_or n.arcs k d ≡ arc_in n.arcs k
at_arc n k d within = get_or_default n.arcs k d no_arc within

none_before_cycle : (n : Net) → KeepsLimits n → AllNone (rules_before_cycle n)
none_before_cycle n valid =
    let horizon : fails_if LONG_HORIZON (nat_lt MAX_HORIZON n.horizon) 0 ≡ None = holds LONG_HORIZON _ 0 (small MAX_HORIZON n.horizon valid.horizon) in
    let counted : ((length n.stages == 0) || nat_lt MAX_STAGES (length n.stages)) ≡ false = (let some = valid.some_stage in let few = valid.few_stages in grind (arith, nat_tests)) in
    let count = holds STAGE_COUNT _ (length n.stages) counted in
    let times = holds_at STAGE_TIMES (has_bad_times n.horizon) n.stages (λ k d l. rw (at_stage n k d l) (good_times n.horizon (stage_at n k) (valid.stages k l))) in
    let lengths = holds_at COST_LENGTH (has_bad_length n.horizon) n.stages (λ k d l. rw (at_stage n k d l) (good_length n.horizon (stage_at n k) (valid.stages k l))) in
    let entries = holds_below COST_ENTRY (has_bad_entry n) (length n.stages) (λ k l. good_entry n k valid l) in
    let arcs = holds ARC_COUNT _ (length n.arcs) (small MAX_ARCS (length n.arcs) valid.few_arcs) in
    let ends = holds_at ARC_ENDS (has_bad_ends (length n.stages)) n.arcs (λ k d l. rw (at_arc n k d l) (good_ends (length n.stages) (arc_in n.arcs k) (valid.arcs k l))) in
    let twice = holds_below ARC_TWICE (stands_twice n.arcs) (length n.arcs) (λ k l. good_once n k valid l) in
    (horizon, (count, (times, (lengths, (entries, (arcs, (ends, (twice, tt))))))))

-- the rule on cycles decides
from_cycle : (n : Net) (first : Option ℕ) → KeepsLimits n → first_of (rules_from_cycle n first) ≡ option_map (fault_at ON_CYCLE) first
from_cycle n None keeps =
    let last : fails_at LONG_TRANSIT has_long_transit n.arcs ≡ None = holds_at LONG_TRANSIT has_long_transit n.arcs (λ k d l. rw (at_arc n k d l) (good_transit (length n.stages) (arc_in n.arcs k) (keeps.arcs k l))) in
    rw last refl
from_cycle n (Some j) keeps = refl

-- the first rule that fails is the one on cycles, at the first stage that reaches itself, or none
pub limits_leave_cycle : (n : Net) (fault : Option NetworkFault) → KeepsLimits n → IsFirstFault n fault
    → (first : Option ℕ) × IsFirstOnCycle (length n.stages) n.arcs first × (fault ≡ option_map (fault_at ON_CYCLE) first)
limits_leave_cycle n fault keeps is =
    let before = first_of_all_none (rules_before_cycle n) (none_before_cycle n keeps) in
    let after : FirstFromCycle n fault = rw before at is in
    (after.0, after.1, after.2 ∙ from_cycle n after.0 keeps)

-- a network keeps the limits
pub KeepsLimits_from_network : (n : Net) → IsNetwork n → KeepsLimits n
KeepsLimits_from_network n valid = record {
  horizon = valid.horizon;
  some_stage = valid.some_stage;
  few_stages = valid.few_stages;
  stages = valid.stages;
  payable = valid.payable;
  few_arcs = valid.few_arcs;
  arcs = valid.arcs;
  once = valid.once;
}

no_lowest : (n : Net) (f : NetworkFault) (first : Option ℕ) → NoCycle (length n.stages) n.arcs → IsFirstOnCycle (length n.stages) n.arcs first → Some f ≡ option_map (fault_at ON_CYCLE) first → ⊥
no_lowest n f None none is same = cc
no_lowest n f (Some j) none is same = none j is.stage is.reaches

-- the first rule that fails is none
pub valid_has_no_fault : (n : Net) (f : NetworkFault) → IsNetwork n → IsFirstFault n (Some f) → ⊥
valid_has_no_fault n f valid is =
    let cycle = limits_leave_cycle n (Some f) (KeepsLimits_from_network n valid) is in
    no_lowest n f cycle.0 valid.acyclic cycle.1 cycle.2
