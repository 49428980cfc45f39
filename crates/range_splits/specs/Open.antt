-- The leaves of a search with their bounds, and what may end it.
use Rattle.std.specs.Prelude.{◌≡◌, ◌≢◌, ◌⊎◌, ◌↔◌, ℕ, ◌+◌, ◌*◌, List, length, All, Contains, Option, Some, None, unwrap_or, option_map}
use Rattle.service_model.specs.declared.limits.TheConstants.{INF}
use Rattle.service_model.specs.declared.plan.Plan.{Plan}
use Rattle.service_model.specs.declared.table.Table.{Table}
use Rattle.service_model.specs.declared.cert.Outcome.{Outcome}
use Rattle.service_model.specs.declared.cert.Outcome.TheVariants.{Optimal, Infeasible, Spent}
use Rattle.service_model.specs.Net.{Net}
use Rattle.service_model.specs.Plans.{cost_of}
use Rattle.service_model.specs.CertRanges.{Cut, IsLeaf, node_bound}
use Rattle.service_model.specs.Verdicts.{EndsWith}
use Rattle.open_leaves.specs.declared.leaf.Leaf.{Leaf}
use Rattle.open_leaves.specs.Leaves.{IsBefore}

-- these are the leaves, each with its bound
abbrev pub AreLeaves : List Table → List (List ℕ) → List Cut → List Leaf → Type 0
AreLeaves tables roots cuts leaves =
    (q : Leaf) → Contains leaves q ↔ (IsLeaf cuts q.node × (q.bound ≡ node_bound tables roots q.node))

-- the leaf is among these, and none is before it
pub record IsLeastOf (leaves : List Leaf) (leaf : Leaf) : Type 0 where
  pub there : Contains leaves leaf
  pub least : All (λ q. ¬ IsBefore q leaf) leaves

-- a leaf where one more is cut: one that the cut does not name, or one of the two halves
abbrev pub IsOldOrHalf : List Cut → Cut → ℕ → Type 0
IsOldOrHalf cuts c k = (IsLeaf cuts k × (k ≢ c.node)) ⊎ ((k ≡ 2 * length cuts + 1) ⊎ (k ≡ 2 * length cuts + 2))

-- the bound of an ending
abbrev pub ending_bound : Outcome → Net → Option Plan → ℕ → ℕ
ending_bound Optimal n found least = unwrap_or (option_map (cost_of n) found) INF
ending_bound Infeasible n found least = INF
ending_bound Spent n found least = least

-- the outcome with which a search ends, none where it goes on
abbrev pub IsEndingOf : Net → Option Plan → ℕ → ℕ → ℕ → Option Outcome → Type 0
IsEndingOf n found least nodes budget None = (o : Outcome) (bound : ℕ) → ¬ EndsWith o n found least nodes budget bound
IsEndingOf n found least nodes budget (Some o) = EndsWith o n found least nodes budget (ending_bound o n found least)
