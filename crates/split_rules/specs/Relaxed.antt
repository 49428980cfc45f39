-- What the relaxed plan of a node that is split must be, and its bound.
use Rattle.std.specs.Prelude.{◌≡◌, ℕ, ◌<◌, List, length, All, Option, IfSome}
use Rattle.service_model.specs.declared.limits.TheConstants.{INF}
use Rattle.service_model.specs.declared.plan.Plan.{Plan}
use Rattle.service_model.specs.declared.range.Range.{Range}
use Rattle.service_model.specs.declared.table.Table.{Table}
use Rattle.service_model.specs.Net.{Net}
use Rattle.service_model.specs.Plans.{cost_of}
use Rattle.service_model.specs.Nodes.{below_roots}
use Rattle.service_model.specs.Relaxed.{FitsRange}
use Rattle.service_model.specs.Earned.{MeetsChildren}

-- the plan's times of each stage fit the range
abbrev pub FitsAll : Net → Range → Plan → Type 0
FitsAll n r p = (j : ℕ) → j < length n.stages → FitsRange n r p j

-- the plan meets the arcs between the tables at or below the roots
abbrev pub MeetsBelow : Net → List Table → List ℕ → Plan → Type 0
MeetsBelow n tables roots p = All (MeetsChildren n tables p) (below_roots tables roots)

-- the plan fits the range, meets the arcs between the tables at or below the roots and costs the bound
pub record IsRelaxedOf (n : Net) (tables : List Table) (r : Range) (roots : List ℕ) (bound : ℕ) (p : Plan) : Type 0 where
  pub stages : FitsAll n r p
  pub arcs : MeetsBelow n tables roots p
  pub cost : cost_of n p ≡ bound

-- the bound is below INF, and below the cost of the plan found where there is one
abbrev pub IsOpenAt : Net → Option Plan → ℕ → Type 0
IsOpenAt n found bound = (bound < INF) × IfSome found (λ p. bound < cost_of n p)
