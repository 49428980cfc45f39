-- The rules on plans, in their order, and the first that a plan breaks.
use Rattle.std.specs.Prelude.{ℕ, ◌+◌, Bool, nat_lt, nat_le, Option, Some, None, List, [], ◌∷◌, length, if◌then◌else◌}
use Rattle.service_model.specs.declared.limits.TheConstants.{INF}
use Rattle.service_model.specs.declared.breaks.TheConstants.{BEFORE_SUPPLY, PAST_HORIZON, BELOW_LEAST, ABOVE_MOST, NEGATIVE_TIME, NOT_ALLOWED, NOT_WAITED}
use Rattle.service_model.specs.declared.breaks.Break.{Break}
use Rattle.service_model.specs.declared.stage.Stage.{Stage}
use Rattle.service_model.specs.declared.plan.Plan.{Plan}
use Rattle.service_model.specs.Net.{Net, stage_at, arc_in}
use Rattle.service_model.specs.Plans.{inbound_at, outbound_at, charge}
use Rattle.service_model.specs.Search.{or_else, first_of, first_below}

-- a rule at a place, where it is broken
abbrev pub broken_if : ℕ → ℕ → Bool → Option Break
broken_if place rule broken = if broken then Some (record { rule = rule; place = place }) else None

-- the rules on the times of the stage at a place, in their order
abbrev pub stage_rules : ℕ → ℕ → Stage → ℕ → ℕ → List (Option Break)
stage_rules horizon place s inbound outbound =
    broken_if place BEFORE_SUPPLY (nat_lt inbound s.supply)
    ∷ broken_if place PAST_HORIZON (nat_lt horizon inbound)
    ∷ broken_if place BELOW_LEAST (nat_lt outbound s.least)
    ∷ broken_if place ABOVE_MOST (nat_lt s.most outbound)
    ∷ broken_if place NEGATIVE_TIME (nat_lt (inbound + s.lead) outbound)
    ∷ broken_if place NOT_ALLOWED (nat_le INF (charge s.lead s.cost inbound outbound))
    ∷ []

-- the first rule that the plan breaks at stage j
abbrev pub stage_break : Net → Plan → ℕ → Option Break
stage_break n p j = first_of (stage_rules n.horizon j (stage_at n j) (inbound_at p j) (outbound_at p j))

-- the rule that the plan breaks at arc a, where the customer does not wait
abbrev pub arc_break : Net → Plan → ℕ → Option Break
arc_break n p a =
    broken_if a NOT_WAITED (nat_lt (inbound_at p (arc_in n.arcs a).customer) (outbound_at p (arc_in n.arcs a).supplier + (arc_in n.arcs a).transit))

-- the first broken rule: stage by stage, and then arc by arc
abbrev pub first_break_of : Net → Plan → Option Break
first_break_of n p =
    or_else (first_below (stage_break n p) (length n.stages)) (first_below (arc_break n p) (length n.arcs))
