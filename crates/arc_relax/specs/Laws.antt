-- What the least cost with arcs left out says of the network's feasible plans.
use Rattle.std.specs.Prelude.{◌≡◌, ℕ, ◌<◌, List, Option, MatchOption, All}
use Rattle.service_model.specs.declared.limits.TheConstants.{INF}
use Rattle.service_model.specs.declared.plan.Plan.{Plan}
use Rattle.service_model.specs.declared.range.Range.{Range}
use Rattle.service_model.specs.Net.{Net}
use Rattle.service_model.specs.Plans.{Feasible, Least, Empty, cost_of}
use Rattle.service_model.specs.Networks.{IsNetwork}
use Rattle.service_model.specs.Ranges.{whole_of, IsIn}
use Rattle.service_model.specs.Forests.{IsKept}
use Rattle.service_model.specs.Relaxed.{IsRelaxedPlan, IsRelaxedLeast}

-- there is a plan exactly where the bound is below INF: one of the range that meets the kept arcs and costs the bound
abbrev pub HasPlan : Net → Range → List ℕ → ℕ → Option Plan → Type 0
HasPlan n r parent bound plan =
    MatchOption plan (bound ≡ INF) (λ p. IsRelaxedPlan n r parent p × (cost_of n p ≡ bound) × (bound < INF))

-- where the least cost is INF, no plan of the range meets the kept arcs
abbrev pub EmptyLaw : Type 0
EmptyLaw = (n : Net) (r : Range) (parent : List ℕ) (p : Plan) → IsNetwork n → IsRelaxedLeast n r parent INF → ¬ IsRelaxedPlan n r parent p

-- a feasible plan of the range meets the kept arcs, whichever these are
abbrev pub FeasibleLaw : Type 0
FeasibleLaw = (n : Net) (r : Range) (parent : List ℕ) (p : Plan) → IsNetwork n → Feasible n p → IsIn n r p → IsRelaxedPlan n r parent p

-- the plan is a least one of the network and costs the bound, or no plan is feasible
abbrev pub IsSolution : Net → ℕ → Option Plan → Type 0
IsSolution n bound plan = MatchOption plan (Empty n × (bound ≡ INF)) (λ p. Least n p × (cost_of n p ≡ bound))

-- where each arc joins a parent and its child, the whole range solves the network
abbrev pub TreeLaw : Type 0
TreeLaw = (n : Net) (r : Range) (parent : List ℕ) (bound : ℕ) (plan : Option Plan) → IsNetwork n → All (IsKept parent) n.arcs → r ≡ whole_of n
    → IsRelaxedLeast n r parent bound → HasPlan n r parent bound plan → IsSolution n bound plan
