-- The rules on networks, in their order, and the first that fails.
use Rattle.std.specs.Prelude.{◌≡◌, ℕ, suc, ◌+◌, Bool, ◌||◌, ◌&&◌, ◌==◌, nat_lt, nat_le, max, Option, Some, None, Result, Ok, Err, ⊤, List, [], ◌∷◌, length, take, position, option_map, MatchOption, if◌then◌else◌}
use Rattle.std.specs.List.{list_any}
use Rattle.service_model.specs.declared.limits.TheConstants.{INF, MAX_HORIZON, MAX_STAGES, MAX_ARCS, MAX_TIME, MAX_BEYOND, MAX_PLAN_COST}
use Rattle.service_model.specs.declared.faults.TheConstants.{LONG_HORIZON, STAGE_COUNT, STAGE_TIMES, COST_LENGTH, COST_ENTRY, ARC_COUNT, ARC_ENDS, ARC_TWICE, ON_CYCLE, LONG_TRANSIT}
use Rattle.service_model.specs.declared.faults.NetworkFault.{NetworkFault}
use Rattle.service_model.specs.declared.faults.NewFault.{NewFault}
use Rattle.service_model.specs.declared.faults.NewFault.TheVariants.{Rule, NoMemory}
use Rattle.service_model.specs.declared.stage.Stage.{Stage}
use Rattle.service_model.specs.declared.stage.SupplyArc.{SupplyArc}
use Rattle.service_model.specs.Net.{Net, stage_at, arc_in}
use Rattle.service_model.specs.Walks.{IsFirstOnCycle}
use Rattle.service_model.specs.Search.{first_of, first_below, sum_below}

-- the rule of this number, failed at this place
abbrev pub fault_at : ℕ → ℕ → NetworkFault
fault_at rule place = record { rule = rule; place = place }

-- a rule at a place, where it fails
unfoldable pub fails_if : ℕ → Bool → ℕ → Option NetworkFault
fails_if rule fails place = if fails then Some (fault_at rule place) else None

-- a rule at the first item where it fails
unfoldable pub fails_at : {A : Type 0} → ℕ → (A → Bool) → List A → Option NetworkFault
fails_at rule fails items = option_map (fault_at rule) (position fails items)

-- a rule at the first of so many places where it fails
unfoldable pub fails_below : ℕ → (ℕ → Bool) → ℕ → Option NetworkFault
fails_below rule fails count = first_below (λ k. fails_if rule (fails k) k) count

-- a stage's times are out of their ranges
unfoldable pub has_bad_times : ℕ → Stage → Bool
has_bad_times horizon s = nat_lt MAX_TIME s.lead || nat_lt horizon s.supply || nat_lt horizon s.most || nat_lt s.most s.least

-- a cost list is empty or too long
unfoldable pub has_bad_length : ℕ → Stage → Bool
has_bad_length horizon s = (length s.cost == 0) || nat_lt (horizon + MAX_BEYOND) (length s.cost)

-- the greatest entry below INF, 0 where there is none
abbrev pub top_of : List ℕ → ℕ
top_of [] = 0
top_of (x ∷ xs) = if nat_lt x INF then max x (top_of xs) else top_of xs

-- the sum of the greatest allowed entries of the first stages
abbrev pub tops_below : Net → ℕ → ℕ
tops_below n count = sum_below (λ j. top_of (stage_at n j).cost) count

-- stage j has an entry above INF, or the greatest allowed entries of the stages up to it sum up to too much
unfoldable pub has_bad_entry : Net → ℕ → Bool
has_bad_entry n j = list_any (nat_lt INF) (stage_at n j).cost || nat_lt MAX_PLAN_COST (tops_below n (suc j))

-- an arc's end is no stage, or its ends are equal
unfoldable pub has_bad_ends : ℕ → SupplyArc → Bool
has_bad_ends stages a = nat_le stages a.supplier || nat_le stages a.customer || (a.supplier == a.customer)

-- two arcs lead from one stage to one stage
abbrev pub same_ends : SupplyArc → SupplyArc → Bool
same_ends a b = (a.supplier == b.supplier) && (a.customer == b.customer)

-- two arcs have one supplier and one customer
abbrev pub IsSameEnds : SupplyArc → SupplyArc → Type 0
IsSameEnds a b = (a.supplier ≡ b.supplier) × (a.customer ≡ b.customer)

-- an earlier arc has the ends of arc a
unfoldable pub stands_twice : List SupplyArc → ℕ → Bool
stands_twice arcs a = list_any (same_ends (arc_in arcs a)) (take a arcs)

-- the transit time of an arc is too long
unfoldable pub has_long_transit : SupplyArc → Bool
has_long_transit a = nat_lt MAX_TIME a.transit

-- the rules before the one on cycles
abbrev pub rules_before_cycle : Net → List (Option NetworkFault)
rules_before_cycle n =
    fails_if LONG_HORIZON (nat_lt MAX_HORIZON n.horizon) 0
    ∷ fails_if STAGE_COUNT ((length n.stages == 0) || nat_lt MAX_STAGES (length n.stages)) (length n.stages)
    ∷ fails_at STAGE_TIMES (has_bad_times n.horizon) n.stages
    ∷ fails_at COST_LENGTH (has_bad_length n.horizon) n.stages
    ∷ fails_below COST_ENTRY (has_bad_entry n) (length n.stages)
    ∷ fails_if ARC_COUNT (nat_lt MAX_ARCS (length n.arcs)) (length n.arcs)
    ∷ fails_at ARC_ENDS (has_bad_ends (length n.stages)) n.arcs
    ∷ fails_below ARC_TWICE (stands_twice n.arcs) (length n.arcs)
    ∷ []

-- the rule on cycles, given the lowest stage that reaches itself, and the one after it
abbrev pub rules_from_cycle : Net → Option ℕ → List (Option NetworkFault)
rules_from_cycle n first =
    option_map (fault_at ON_CYCLE) first
    ∷ fails_at LONG_TRANSIT has_long_transit n.arcs
    ∷ []

-- the fault is the first of the rules from the one on cycles on
abbrev pub FirstFromCycle : Net → Option NetworkFault → Type 0
FirstFromCycle n fault =
    (first : Option ℕ) × IsFirstOnCycle (length n.stages) n.arcs first × (fault ≡ first_of (rules_from_cycle n first))

-- the first rule that fails, none where all hold
abbrev pub IsFirstFault : Net → Option NetworkFault → Type 0
IsFirstFault n fault = MatchOption (first_of (rules_before_cycle n)) (FirstFromCycle n fault) (λ f. fault ≡ Some f)

-- what a call that makes this network gives
abbrev pub MakesNetwork : Net → Result Net NewFault → Type 0
MakesNetwork n (Ok made) = (made ≡ n) × IsFirstFault n None
MakesNetwork n (Err (Rule f)) = IsFirstFault n (Some f)
MakesNetwork n (Err NoMemory) = ⊤
