-- Which arc a plan breaks most.
use Rattle.std.specs.Prelude.{◌≡◌, ℕ, ◌+◌, ◌-◌, ◌<◌, ◌≤◌, length, Option, Some, None, MatchOption}
use Rattle.service_model.specs.declared.stage.SupplyArc.{SupplyArc}
use Rattle.service_model.specs.declared.plan.Plan.{Plan}
use Rattle.service_model.specs.Net.{Net, arc_in}
use Rattle.service_model.specs.Plans.{inbound_at, outbound_at}
use Rattle.range_splits.specs.declared.broken.Broken.{Broken}

-- how much too late the supplier's output comes for the customer, 0 where the arc is met
abbrev pub lateness : Plan → SupplyArc → ℕ
lateness p a = outbound_at p a.supplier + a.transit - inbound_at p a.customer

-- arc a is broken, no arc is broken more, and none before it as much
pub record IsMostBroken (n : Net) (p : Plan) (a : ℕ) : Type 0 where
  pub there : a < length n.arcs
  pub broken : 0 < lateness p (arc_in n.arcs a)
  pub most : (b : ℕ) → b < length n.arcs → lateness p (arc_in n.arcs b) ≤ lateness p (arc_in n.arcs a)
  pub first : (b : ℕ) → b < a → lateness p (arc_in n.arcs b) < lateness p (arc_in n.arcs a)

-- of the first arcs, the one that is broken most, none where all of them are met
pub record IsMostOf (n : Net) (p : Plan) (count : ℕ) (x : Broken) : Type 0 where
  pub there : x.arc < count
  pub late : lateness p (arc_in n.arcs x.arc) ≡ x.late
  pub broken : 0 < x.late
  pub most : (b : ℕ) → b < count → lateness p (arc_in n.arcs b) ≤ x.late
  pub first : (b : ℕ) → b < x.arc → lateness p (arc_in n.arcs b) < x.late

-- the arc is the one broken most among the first so many, or none of them is broken
abbrev pub IsMostSoFar : Net → Plan → ℕ → Option Broken → Type 0
IsMostSoFar n p count best = MatchOption best ((b : ℕ) → b < count → lateness p (arc_in n.arcs b) ≡ 0) (IsMostOf n p count)

-- how much too late the output comes on the arc that is broken most, 0 where all are met
abbrev pub late_of : Option Broken → ℕ
late_of None = 0
late_of (Some x) = x.late
