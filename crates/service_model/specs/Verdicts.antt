-- How a search ends, and when its verdict is true.
use Rattle.std.specs.Prelude.{◌≡◌, ◌≢◌, ℕ, ◌+◌, ◌<◌, ◌≤◌, List, length, Option, Some, None, IsSomeAnd}
use Rattle.service_model.specs.declared.limits.TheConstants.{INF}
use Rattle.service_model.specs.declared.plan.Plan.{Plan}
use Rattle.service_model.specs.declared.table.Table.{Table}
use Rattle.service_model.specs.declared.cert.Outcome.{Outcome}
use Rattle.service_model.specs.declared.cert.Outcome.TheVariants.{Optimal, Infeasible, Spent}
use Rattle.service_model.specs.declared.cert.Verdict.{Verdict}
use Rattle.service_model.specs.Net.{Net}
use Rattle.service_model.specs.Plans.{Feasible, Least, Empty, cost_of}
use Rattle.service_model.specs.CertRanges.{Cut, IsLeaf, node_bound}
use Rattle.service_model.specs.Repairs.{Found}

-- no leaf's bound is below b
abbrev pub BoundsLeaves : List Table → List (List ℕ) → List Cut → ℕ → Type 0
BoundsLeaves tables roots cuts b = (k : ℕ) → IsLeaf cuts k → b ≤ node_bound tables roots k

-- b is the least bound of a leaf
pub record IsLeastBound (tables : List Table) (roots : List (List ℕ)) (cuts : List Cut) (b : ℕ) : Type 0 where
  pub lower : BoundsLeaves tables roots cuts b
  pub node : ℕ
  pub leaf : IsLeaf cuts node
  pub reached : node_bound tables roots node ≡ b

-- node k is the leaf of least bound, the lowest number among equals
pub record IsNextLeaf (tables : List Table) (roots : List (List ℕ)) (cuts : List Cut) (k : ℕ) : Type 0 where
  pub leaf : IsLeaf cuts k
  pub least : BoundsLeaves tables roots cuts (node_bound tables roots k)
  pub first : (other : ℕ) → IsLeaf cuts other → other < k → node_bound tables roots k < node_bound tables roots other

-- a plan is found that costs at most the least bound
abbrev pub Closes : Net → Option Plan → ℕ → Type 0
Closes n found least = IsSomeAnd found (λ p. cost_of n p ≤ least)

-- a search ends with the outcome and the bound, where so many nodes came of a budget
abbrev pub EndsWith : Outcome → Net → Option Plan → ℕ → ℕ → ℕ → ℕ → Type 0
EndsWith Optimal n found least nodes budget bound = IsSomeAnd found (λ p. (cost_of n p ≤ least) × (bound ≡ cost_of n p))
EndsWith Infeasible n found least nodes budget bound = (¬ Closes n found least) × (least ≡ INF) × (bound ≡ INF)
EndsWith Spent n found least nodes budget bound =
    (¬ Closes n found least) × (least ≢ INF) × (budget < nodes + 2) × (bound ≡ least)

-- the plan of a search that ends with the outcome
abbrev pub ending_plan : Outcome → Option Plan → Option Plan
ending_plan Optimal found = found
ending_plan Infeasible found = None
ending_plan Spent found = found

-- the nodes of a search, as far as its ending goes: their roots and relaxed plans, and the cuts between them
pub record Searched : Type 0 where
  pub tables : List Table
  pub roots : List (List ℕ)
  pub relaxed : List (Option Plan)
  pub cuts : List Cut

-- the search ends with the outcome and the bound, by the plan found and the least bound of a leaf
pub record Ends (n : Net) (s : Searched) (budget : ℕ) (outcome : Outcome) (bound : ℕ) (found : Option Plan) : Type 0 where
  pub is_found : Found n s.relaxed found
  pub least : ℕ
  pub is_least : IsLeastBound s.tables s.roots s.cuts least
  pub ends : EndsWith outcome n found least (length s.roots) budget bound

-- the verdict is the search's ending
abbrev pub IsEnding : Net → Searched → ℕ → Verdict → Type 0
IsEnding n s budget v =
    (found : Option Plan) × Ends n s budget v.outcome v.bound found × (v.plan ≡ ending_plan v.outcome found)

-- a verdict with the outcome says of the network what is true
abbrev pub TrueAs : Outcome → Net → ℕ → Option Plan → Type 0
TrueAs Optimal n bound plan = IsSomeAnd plan (λ p. Least n p × (bound ≡ cost_of n p))
TrueAs Infeasible n bound plan = (bound ≡ INF) × (plan ≡ None) × Empty n
TrueAs Spent n bound plan =
    ((p : Plan) → Feasible n p → bound ≤ cost_of n p) × ((p : Plan) → plan ≡ Some p → Feasible n p)

-- the verdict is true of the network
abbrev pub IsTrueOf : Net → Verdict → Type 0
IsTrueOf n v = TrueAs v.outcome n v.bound v.plan
