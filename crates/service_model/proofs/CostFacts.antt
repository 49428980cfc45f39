-- What a plan costs, against the greatest entries of the cost lists.
use Rattle.std.proofs.Common.{◌≡◌, ℕ, zero, suc, ◌+◌, ◌-◌, ◌<◌, ◌≤◌, Bool, true, false, leb, List, [], ◌∷◌, length, refl, arith, inl, inr}
use Rattle.std.specs.Prelude.{All}
use Rattle.std.proofs.lemmas.List.{get_or_past}
use Rattle.std.proofs.lemmas.Bool.{cases_lt}
use Rattle.std.proofs.lemmas.Bool.Decides.{nat_tests}
use Rattle.service_model.specs.declared.limits.TheConstants.{INF, MAX_PLAN_COST}
use Rattle.service_model.specs.declared.plan.Plan.{Plan}
use Rattle.service_model.specs.Net.{Net, stage_at}
use Rattle.service_model.specs.Search.{sum_below}
use Rattle.service_model.specs.Plans.{entry_of, charge, inbound_at, outbound_at, stage_cost, cost_of, Feasible}
use Rattle.service_model.specs.Faults.{top_of}
use Rattle.service_model.specs.Networks.{IsNetwork}
use Rattle.service_model.proofs.TopFacts.{entry_below_top}
use Rattle.service_model.proofs.SearchFacts.{sum_below_le, sum_below_grows}

charge_cases : (lead : ℕ) (cost : List ℕ) (inbound outbound : ℕ) (b : Bool) → leb outbound (inbound + lead) ≡ b → charge lead cost inbound outbound < INF → charge lead cost inbound outbound ≤ top_of cost
charge_cases lead cost inbound outbound true covered allowed =
    rw covered (entry_below_top cost (inbound + lead - outbound) (rw covered at allowed))
charge_cases lead cost inbound outbound false short allowed = absurd (omega (arith, rw short at allowed))

-- an allowed cost at two service times is at most the greatest entry
pub charge_below_top : (lead : ℕ) (cost : List ℕ) (inbound outbound : ℕ) → charge lead cost inbound outbound < INF → charge lead cost inbound outbound ≤ top_of cost
charge_below_top lead cost inbound outbound allowed =
    charge_cases lead cost inbound outbound (leb outbound (inbound + lead)) refl allowed

-- an allowed time is not negative, and has an entry
pub allowed_covered : (lead : ℕ) (cost : List ℕ) (inbound outbound : ℕ) → charge lead cost inbound outbound < INF → outbound ≤ inbound + lead
allowed_covered lead cost inbound outbound allowed = grind (arith, nat_tests)

pub allowed_has_entry : (cost : List ℕ) (time : ℕ) → entry_of cost time < INF → time < length cost
allowed_has_entry [] time allowed = absurd (omega arith)
allowed_has_entry (x ∷ xs) zero allowed = omega arith
allowed_has_entry (x ∷ xs) (suc time) allowed = let rest : time < length xs = allowed_has_entry xs time allowed in omega (arith, rest)

-- the charge where the time is not negative
pub charge_covered : (lead : ℕ) (cost : List ℕ) (inbound outbound : ℕ) → outbound ≤ inbound + lead → charge lead cost inbound outbound ≡ entry_of cost (inbound + lead - outbound)
charge_covered lead cost inbound outbound covered = grind (arith, nat_tests)

-- no entry of a network is above INF
pub entry_at_most : (cost : List ℕ) (time : ℕ) → All (λ x. x ≤ INF) cost → entry_of cost time ≤ INF
entry_at_most cost time entries = elim (cases_lt time (length cost)) [ inl within ↦ entries time INF within | inr past ↦ (let none : entry_of cost time ≡ INF = get_or_past cost time INF past in omega (arith, none)) ]

-- what each stage of a feasible plan costs is at most its greatest entry
pub cost_below_top : (n : Net) (p : Plan) → Feasible n p → (j : ℕ) → j < length n.stages → stage_cost n p j ≤ top_of (stage_at n j).cost
cost_below_top n p feasible j within =
    charge_below_top (stage_at n j).lead (stage_at n j).cost (inbound_at p j) (outbound_at p j) (feasible.stages j within).allowed

-- allowed costs of the first stages sum up to at most what a network may cost
pub allowed_within : (n : Net) (costs : ℕ → ℕ) → IsNetwork n → ((j : ℕ) → j < length n.stages → costs j ≤ top_of (stage_at n j).cost) → (count : ℕ) → count ≤ length n.stages → sum_below costs count ≤ MAX_PLAN_COST
allowed_within n costs valid allowed count few =
    let tops : ℕ → ℕ = λ j. top_of (stage_at n j).cost in
    let here : sum_below costs count ≤ sum_below tops count = sum_below_le costs tops count (λ j below. allowed j (omega arith)) in
    let all : sum_below tops count ≤ sum_below tops (length n.stages) = sum_below_grows tops count (length n.stages) few in
    omega (arith, here, all, valid.payable)

-- the first stages of a feasible plan cost at most what a network may cost
pub costs_within : (n : Net) (p : Plan) → IsNetwork n → Feasible n p → (count : ℕ) → count ≤ length n.stages → sum_below (stage_cost n p) count ≤ MAX_PLAN_COST
costs_within n p valid feasible = allowed_within n (stage_cost n p) valid (cost_below_top n p feasible)

pub cost_within : (n : Net) (p : Plan) → IsNetwork n → Feasible n p → cost_of n p ≤ MAX_PLAN_COST
cost_within n p valid feasible = costs_within n p valid feasible (length n.stages) (omega arith)
