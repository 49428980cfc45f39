-- A network on which no rule fails keeps the limits.
use Rattle.std.proofs.Common.{◌≡◌, ◌≢◌, ℕ, suc, ◌+◌, ◌-◌, ◌<◌, ◌≤◌, ◌||◌, Bool, true, false, eqb, ltb, Option, Some, None, List, length, get_or, take, refl, sym, subst, arith}
use Rattle.std.specs.Prelude.{All, Result, Ok, Err, IfOk, IsErrAnd}
use Rattle.std.specs.List.{list_any}
use Rattle.std.proofs.lemmas.List.{get_or-take, get_or_default, length-take}
use Rattle.std.proofs.lemmas.List.Folds.{list_any_at}
use Rattle.std.proofs.lemmas.Bool.{ltb-false}
use Rattle.std.proofs.lemmas.Bool.Decides.{nat_tests}
use Rattle.service_model.specs.declared.limits.TheConstants.{INF, MAX_HORIZON, MAX_STAGES, MAX_ARCS, MAX_TIME, MAX_BEYOND, MAX_PLAN_COST}
use Rattle.service_model.specs.declared.faults.TheConstants.{LONG_HORIZON, STAGE_COUNT, STAGE_TIMES, COST_LENGTH, COST_ENTRY, ARC_COUNT, ARC_ENDS, ARC_TWICE, LONG_TRANSIT}
use Rattle.service_model.specs.declared.faults.NetworkFault.{NetworkFault}
use Rattle.service_model.specs.declared.faults.NewFault.{NewFault}
use Rattle.service_model.specs.declared.faults.NewFault.TheVariants.{NoMemory as no_memory}
use Rattle.service_model.specs.declared.list.NoMemory.{NoMemory}
use Rattle.service_model.specs.declared.stage.Stage.{Stage}
use Rattle.service_model.specs.declared.stage.SupplyArc.{SupplyArc}
use Rattle.service_model.specs.Net.{Net, net_of, stage_at, no_stage, arc_in, no_arc}
use Rattle.service_model.specs.Search.{first_of}
use Rattle.service_model.specs.Walks.{NoCycle}
use Rattle.service_model.specs.Customers.{HasEnds}
use Rattle.service_model.specs.Faults.{fails_at, has_bad_times, has_bad_length, has_bad_entry, has_bad_ends, has_long_transit, same_ends, IsSameEnds, stands_twice, tops_below, rules_before_cycle, rules_from_cycle, FirstFromCycle, IsFirstFault, MakesNetwork}
use Rattle.service_model.specs.Networks.{StageWithin, ArcWithin, IsNetwork}
use Rattle.service_model.proofs.SearchFacts.{first_of_none}
use Rattle.service_model.proofs.FaultFacts.{no_fault, none_fails_at, none_fails_below}

good_times : (horizon : ℕ) (s : Stage) → has_bad_times horizon s ≡ false → (s.lead ≤ MAX_TIME) × (s.supply ≤ horizon) × (s.most ≤ horizon) × (s.least ≤ s.most)
unfolding has_bad_times
good_times horizon s holds = grind (arith, nat_tests)

good_length : (horizon : ℕ) (s : Stage) → has_bad_length horizon s ≡ false → (0 < length s.cost) × (length s.cost ≤ horizon + MAX_BEYOND)
unfolding has_bad_length
good_length horizon s holds = grind (arith, nat_tests)

neither : (a b : Bool) → (a || b) ≡ false → (a ≡ false) × (b ≡ false)
neither true b holds = cc
neither false b holds = (refl, holds)

small_entry : (xs : List ℕ) (k d : ℕ) (b : Bool) → ltb INF (get_or xs k d) ≡ b → k < length xs → list_any (ltb INF) xs ≡ false → get_or xs k d ≤ INF
small_entry xs k d false small within none = ltb-false _ _ small
small_entry xs k d true large within none = let found = list_any_at (ltb INF) xs k d within large in cc

good_entry : (n : Net) (j : ℕ) → has_bad_entry n j ≡ false → (list_any (ltb INF) (stage_at n j).cost ≡ false) × (ltb MAX_PLAN_COST (tops_below n (suc j)) ≡ false)
unfolding has_bad_entry
good_entry n j holds = neither _ _ holds

good_ends : (stages : ℕ) (a : SupplyArc) → has_bad_ends stages a ≡ false → (a.supplier < stages) × (a.customer < stages) × (a.supplier ≢ a.customer)
unfolding has_bad_ends
good_ends stages a holds = (grind (arith, nat_tests), grind (arith, nat_tests), grind (arith, nat_tests))

good_transit : (a : SupplyArc) → has_long_transit a ≡ false → a.transit ≤ MAX_TIME
unfolding has_long_transit
good_transit a holds = ltb-false _ _ holds

-- both ends of each arc are stages, where no rule before the one on cycles fails
pub ends_within : (n : Net) → first_of (rules_before_cycle n) ≡ None → All (λ a. (a.supplier < length n.stages) × (a.customer < length n.stages)) n.arcs
ends_within n none = λ a d within.
    let all = first_of_none (rules_before_cycle n) none in
    let good = good_ends (length n.stages) (get_or n.arcs a d) (none_fails_at ARC_ENDS (has_bad_ends (length n.stages)) n.arcs all.1.1.1.1.1.1.0 a d within) in
    (good.0, good.1)

-- where no rule before it fails, the rule on cycles and the one after it decide
pub first_fault_from_cycle : (n : Net) → first_of (rules_before_cycle n) ≡ None → (r : Result (Option NetworkFault) NoMemory) → IfOk r (FirstFromCycle n) → IfOk r (IsFirstFault n)
first_fault_from_cycle n none (Ok fault) first = rw none first
first_fault_from_cycle n none (Err e) first = tt

same_ends_is : (a b : SupplyArc) → IsSameEnds a b → same_ends b a ≡ true
same_ends_is a b same = grind (arith, nat_tests)

good_stage : (horizon : ℕ) (s : Stage) → has_bad_times horizon s ≡ false → has_bad_length horizon s ≡ false → list_any (ltb INF) s.cost ≡ false → StageWithin horizon s
good_stage horizon s times lengths entries =
    let t = good_times horizon s times in
    let l = good_length horizon s lengths in
    record {
      lead = t.0;
      supply = t.1;
      most = t.2;
      least = t.3;
      some_cost = l.0;
      cost_length = l.1;
      entries = λ k d within. small_entry s.cost k d (ltb INF (get_or s.cost k d)) refl within entries;
    }

good_arc : (stages : ℕ) (a : SupplyArc) → has_bad_ends stages a ≡ false → has_long_transit a ≡ false → ArcWithin stages a
good_arc stages a ends transit =
    let e = good_ends stages a ends in
    record { supplier = e.0; customer = e.1; apart = e.2; transit = good_transit a transit }

-- no two arcs have the same ends
once : (arcs : List SupplyArc) (a b : ℕ) → stands_twice arcs b ≡ false → a < b → b < length arcs → IsSameEnds (arc_in arcs a) (arc_in arcs b) → ⊥
unfolding stands_twice
once arcs a b single before within same =
    let at : get_or (take b arcs) a no_arc ≡ get_or arcs a no_arc = get_or-take b arcs a no_arc before in
    let few : a < length (take b arcs) = omega (arith, length-take b arcs) in
    let ends : same_ends (arc_in arcs b) (get_or (take b arcs) a no_arc) ≡ true = rw at (same_ends_is (arc_in arcs a) (arc_in arcs b) same) in
    let found = list_any_at (same_ends (arc_in arcs b)) (take b arcs) a no_arc few ends in
    cc

-- the greatest allowed entries of all stages sum up to little enough
payable : (n : Net) → ((j : ℕ) → j < length n.stages → has_bad_entry n j ≡ false) → 0 < length n.stages → tops_below n (length n.stages) ≤ MAX_PLAN_COST
payable n good some =
    let last = length n.stages - 1 in
    let all : length n.stages ≡ suc last = omega arith in
    rw all (ltb-false _ _ (good_entry n last (good last (omega arith))).1)

-- no cycle, and no long transit
acyclic : (n : Net) → FirstFromCycle n None → NoCycle (length n.stages) n.arcs
acyclic n (None, cycle, first) = cycle
acyclic n (Some j, cycle, first) = cc

short_transits : (n : Net) → FirstFromCycle n None → fails_at LONG_TRANSIT has_long_transit n.arcs ≡ None
short_transits n (first, cycle, none) = (first_of_none (rules_from_cycle n first) (sym none)).1.0

from_cycle : (n : Net) → IsFirstFault n None → (before : Option NetworkFault) → before ≡ first_of (rules_before_cycle n) → (before ≡ None) × FirstFromCycle n None
from_cycle n first None none = (refl, rw (sym none) at first)
from_cycle n first (Some f) fault = (let wrong = rw (sym fault) at first in cc)

-- where no rule fails, all hold
pub IsNetwork_from_none : (n : Net) → IsFirstFault n None → IsNetwork n
IsNetwork_from_none n first =
    let cycle = from_cycle n first (first_of (rules_before_cycle n)) refl in
    let all = first_of_none (rules_before_cycle n) cycle.0 in
    let counted : (eqb (length n.stages) 0 || ltb MAX_STAGES (length n.stages)) ≡ false = no_fault STAGE_COUNT _ (length n.stages) all.1.0 in
    let some : 0 < length n.stages = grind (arith, nat_tests) in
    let times = none_fails_at STAGE_TIMES (has_bad_times n.horizon) n.stages all.1.1.0 in
    let lengths = none_fails_at COST_LENGTH (has_bad_length n.horizon) n.stages all.1.1.1.0 in
    let entries = none_fails_below COST_ENTRY (has_bad_entry n) (length n.stages) all.1.1.1.1.0 in
    let ends = none_fails_at ARC_ENDS (has_bad_ends (length n.stages)) n.arcs all.1.1.1.1.1.1.0 in
    let single = none_fails_below ARC_TWICE (stands_twice n.arcs) (length n.arcs) all.1.1.1.1.1.1.1.0 in
    let transits = none_fails_at LONG_TRANSIT has_long_transit n.arcs (short_transits n cycle.1) in
    record {
      horizon = ltb-false MAX_HORIZON n.horizon (no_fault LONG_HORIZON _ 0 all.0);
      some_stage = some;
      few_stages = grind (arith, nat_tests);
      stages = λ j within. good_stage n.horizon (stage_at n j) (times j no_stage within) (lengths j no_stage within) (good_entry n j (entries j within)).0;
      payable = payable n entries some;
      few_arcs = ltb-false MAX_ARCS (length n.arcs) (no_fault ARC_COUNT _ (length n.arcs) all.1.1.1.1.1.0);
      arcs = λ a within. good_arc (length n.stages) (arc_in n.arcs a) (ends a no_arc within) (transits a no_arc within);
      once = λ a b before within. once n.arcs a b (single b within) before within;
      acyclic = acyclic n cycle.1;
    }

-- a first fault, told of equal lists
pub first_fault_of_same : (horizon : ℕ) (given stages : List Stage) (read arcs : List SupplyArc) (found fault : Option NetworkFault) → given ≡ stages → read ≡ arcs → found ≡ fault → IsFirstFault (net_of horizon given read) found → IsFirstFault (net_of horizon stages arcs) fault
first_fault_of_same horizon given stages read arcs found fault same_stages same_arcs same first =
    let at_stages : IsFirstFault (net_of horizon stages read) found = subst (λ (s : List Stage). IsFirstFault (net_of horizon s read) found) same_stages first in
    let at_arcs : IsFirstFault (net_of horizon stages arcs) found = subst (λ (a : List SupplyArc). IsFirstFault (net_of horizon stages a) found) same_arcs at_stages in
    subst (λ (f : Option NetworkFault). IsFirstFault (net_of horizon stages arcs) f) same at_arcs

-- want of memory makes no network
pub no_memory_makes_none : (n : Net) (r : Result Net NewFault) → IsErrAnd r (λ e. e ≡ no_memory) → MakesNetwork n r
no_memory_makes_none n (Ok made) e = absurd e
no_memory_makes_none n (Err e) same = rw same tt

-- each arc of a network joins stages
pub IsNetwork-HasEnds : (n : Net) → IsNetwork n → HasEnds (length n.stages) n.arcs
IsNetwork-HasEnds n valid a d within =
    let arc = valid.arcs a within in
    rw (get_or_default n.arcs a d no_arc within) (arc.supplier, arc.customer)
