-- When the nodes before a split earn it.
use Rattle.std.specs.Prelude.{◌≡◌, ℕ, ◌+◌, ◌*◌, ◌<◌, List, length, All, Some}
use Rattle.service_model.specs.declared.limits.TheConstants.{INF}
use Rattle.service_model.specs.declared.plan.Plan.{Plan}
use Rattle.service_model.specs.declared.table.Table.{Table}
use Rattle.service_model.specs.declared.cert.Split.{Split}
use Rattle.service_model.specs.Net.{Net}
use Rattle.service_model.specs.Plans.{inbound_at, outbound_at, cost_of}
use Rattle.service_model.specs.Tables.{table_at, transit_in, Supplies}
use Rattle.service_model.specs.Nodes.{below_roots, MeetsChild}
use Rattle.service_model.specs.Relaxed.{FitsRange}
use Rattle.service_model.specs.Repairs.{IsFound}
use Rattle.service_model.specs.Verdicts.{IsNextLeaf}
use Rattle.service_model.specs.Held.{Held, node_at, relaxed_at, cuts_of, roots_of, relaxed_of, range_of, bound_at}

-- the plan meets the arcs between table i and its children
abbrev pub MeetsChildren : Net → List Table → Plan → ℕ → Type 0
MeetsChildren n tables p i =
    All (λ c. MeetsChild (table_at tables c).kind n.arcs p (table_at tables c).stage (table_at tables i).stage) (table_at tables i).children

-- node k is the leaf that is split next
abbrev pub IsNext : Net → Held → ℕ → Type 0
IsNext n h k = IsNextLeaf h.tables (roots_of h) (cuts_of n h) k

-- the bound of node k is below INF, and below the cost of the plan found where there is one
pub record IsOpen (n : Net) (h : Held) (k : ℕ) : Type 0 where
  pub finite : bound_at h k < INF
  pub below : (p : Plan) → IsFound n (relaxed_of h) p → bound_at h k < cost_of n p

-- node k has a relaxed plan, which fits its range, meets the arcs between its tables and costs its bound
pub record IsRelaxedAt (n : Net) (h : Held) (k : ℕ) : Type 0 where
  pub plan : Plan
  pub there : (node_at h.nodes k).relaxed ≡ Some plan
  pub stages : (j : ℕ) → j < length n.stages → FitsRange n (range_of n h k) plan j
  pub arcs : All (MeetsChildren n h.tables plan) (below_roots h.tables (node_at h.nodes k).roots)
  pub cost : cost_of n plan ≡ bound_at h k

-- the split names an arc, which its node's relaxed plan breaks
pub record BreaksArc (n : Net) (h : Held) (s : Split) : Type 0 where
  pub arc : Supplies n.arcs s.supplier s.customer
  pub broken : inbound_at (relaxed_at h.nodes s.node) s.customer
      < outbound_at (relaxed_at h.nodes s.node) s.supplier + transit_in n.arcs s.supplier s.customer

-- the split is earned by the nodes before it, two for each split before it and the first
pub record IsEarned (n : Net) (h : Held) (s : Split) : Type 0 where
  pub nodes : length h.nodes ≡ 2 * length h.splits + 1
  pub next : IsNext n h s.node
  pub early : IsOpen n h s.node
  pub relaxed : IsRelaxedAt n h s.node
  pub arc : BreaksArc n h s
