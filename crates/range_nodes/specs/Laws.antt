-- The laws over the nodes of a search.
use Rattle.std.specs.Prelude.{◌≡◌, ℕ, ◌<◌, ◌≤◌, List, [], ◌++◌, length, slice_index, All, Some, Contains}
use Rattle.service_model.specs.declared.limits.TheConstants.{INF}
use Rattle.service_model.specs.declared.plan.Plan.{Plan}
use Rattle.service_model.specs.declared.range.Range.{Range}
use Rattle.service_model.specs.declared.table.Table.{Table}
use Rattle.service_model.specs.declared.cert.Node.{Node}
use Rattle.service_model.specs.declared.cert.Item.TheVariants.{Node as NodeItem}
use Rattle.service_model.specs.Net.{Net, stage_at}
use Rattle.service_model.specs.Plans.{Feasible, Meets}
use Rattle.service_model.specs.Networks.{IsNetwork}
use Rattle.service_model.specs.Ranges.{whole_of, HasIntervals}
use Rattle.service_model.specs.Nodes.{below_roots, bound_of}
use Rattle.service_model.specs.CertNumbers.{InRange}
use Rattle.service_model.specs.Held.{Held, node_at, budget_of, range_of, bound_at}
use Rattle.service_model.specs.Earned.{IsRelaxedAt}
use Rattle.service_model.specs.CertRules.{NodeRule}
use Rattle.tree_order.specs.declared.forest.Forest.{Forest}
use Rattle.tree_order.specs.Forest.{IsForest}
use Rattle.cert_laws.specs.Grown.{TablesKeep}
use Rattle.arc_relax.specs.Laws.{IsSolution}
use Rattle.range_nodes.specs.Sizes.{IsShortNode}
use Rattle.range_nodes.specs.Roots.{RiseByStage, AreRootsOf}
use Rattle.range_nodes.specs.Nodes.{AreSearched, IsRangeNode}

-- a search begins with no tables
abbrev pub NoTablesLaw : Type 0
NoTablesLaw = (n : Net) → AreSearched n []

-- a node stays one as tables come behind its own
abbrev pub NodeStaysLaw : Type 0
NodeStaysLaw = (n : Net) (f : Forest) (tables more : List Table) (r : Range) (x : Node) → AreSearched n (tables ++ more)
    → IsRangeNode n f tables r x → IsRangeNode n f (tables ++ more) r x

-- and so does its bound
abbrev pub BoundStaysLaw : Type 0
BoundStaysLaw = (n : Net) (f : Forest) (tables more : List Table) (r : Range) (x : Node) → IsRangeNode n f tables r x
    → bound_of (tables ++ more) x.roots ≡ bound_of tables x.roots

-- new tables keep their rules, over those that came and those before them
abbrev pub NewTablesLaw : Type 0
NewTablesLaw = (n : Net) (old more : List Table) → IsNetwork n → AreSearched n (old ++ more) → TablesKeep n old more

-- a node that is next, and within the budget, keeps the rules on nodes, and its numbers are in their ranges
abbrev pub NodeRulesLaw : Type 0
NodeRulesLaw = (n : Net) (f : Forest) (h : Held) (r : Range) (x : Node) → IsNetwork n → IsForest (length n.stages) n.arcs f → HasIntervals n r
    → AreSearched n h.tables → r ≡ range_of n h (length h.nodes) → IsRangeNode n f h.tables r x → length h.nodes < budget_of h
    → ((rule : ℕ) → NodeRule n h x rule) × InRange (NodeItem x)

-- a node whose bound is below INF has a relaxed plan as splits want it
abbrev pub RelaxedAtLaw : Type 0
RelaxedAtLaw = (n : Net) (f : Forest) (h : Held) (k : ℕ) → IsNetwork n → IsForest (length n.stages) n.arcs f → AreSearched n h.tables
    → IsRangeNode n f h.tables (range_of n h k) (node_at h.nodes k) → bound_at h k < INF → IsRelaxedAt n h k

-- the relaxed plan is feasible where it meets all arcs, and the range lies within the whole one
abbrev pub FeasibleFoundLaw : Type 0
FeasibleFoundLaw = (n : Net) (f : Forest) (tables : List Table) (r : Range) (x : Node) (p : Plan) → IsNetwork n → IsForest (length n.stages) n.arcs f
    → ((j : ℕ) → j < length n.stages → ((stage_at n j).least ≤ slice_index r.least j) × (slice_index r.most j ≤ (stage_at n j).most))
    → IsRangeNode n f tables r x → x.relaxed ≡ Some p → All (Meets p) n.arcs → Feasible n p

-- the node's lists are short
abbrev pub ShortNodeLaw : Type 0
ShortNodeLaw = (n : Net) (f : Forest) (tables : List Table) (r : Range) (x : Node) → IsForest (length n.stages) n.arcs f → IsRangeNode n f tables r x
    → IsShortNode n x

-- each stage's table stands at or below the roots
abbrev pub StageBelowLaw : Type 0
StageBelowLaw = (n : Net) (f : Forest) (tables : List Table) (r : Range) (x : Node) (j : ℕ) → IsForest (length n.stages) n.arcs f
    → (is : IsRangeNode n f tables r x) → j < length n.stages → Contains (below_roots tables x.roots) (slice_index is.numbers j)

-- the roots are tables of the forest's roots, by rising number of their stages
abbrev pub RootsLaw : Type 0
RootsLaw = (n : Net) (f : Forest) (tables : List Table) (r : Range) (x : Node) → IsForest (length n.stages) n.arcs f → IsRangeNode n f tables r x
    → AreRootsOf f tables x.roots × RiseByStage tables x.roots

-- where no arc is dropped, the node of the whole range solves the network
abbrev pub TreeSolvesLaw : Type 0
TreeSolvesLaw = (n : Net) (f : Forest) (tables : List Table) (r : Range) (x : Node) → IsNetwork n → IsForest (length n.stages) n.arcs f
    → f.dropped ≡ [] → r ≡ whole_of n → IsRangeNode n f tables r x → IsSolution n (bound_of tables x.roots) x.relaxed
