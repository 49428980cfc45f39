-- The laws over tables.
use Rattle.std.specs.Prelude.{◌≡◌, ℕ, ◌<◌, ◌≤◌, List, ◌∷◌, length, slice_index, All}
use Rattle.std.specs.List.{flat_map, AllByRecursion}
use Rattle.service_model.specs.declared.limits.TheConstants.{INF}
use Rattle.service_model.specs.declared.plan.Plan.{Plan}
use Rattle.service_model.specs.declared.range.Range.{Range}
use Rattle.service_model.specs.declared.table.Table.{Table}
use Rattle.service_model.specs.Net.{Net}
use Rattle.service_model.specs.Plans.{HasTimes, Feasible, cost_of}
use Rattle.service_model.specs.Customers.{HasEnds}
use Rattle.service_model.specs.Ranges.{IsIn}
use Rattle.service_model.specs.Tables.{table_at}
use Rattle.service_model.specs.LocalSums.{Sound}
use Rattle.service_model.specs.Nodes.{below, Holds, plan_value, bound_of, AreSoundBelow, AreTightBelow, IsOnce, IsNode}
use Rattle.gsm_laws.specs.Traces.{IsTraced, cost_at, IsTraceOf, IsWhole, IsLeastTraced}

-- what is at or below sound tables is the table, and what is at or below its children
abbrev pub BelowLaw : Type 0
BelowLaw = (n : Net) (tables : List Table) (i : ℕ) → AreSoundBelow n tables i
    → below tables i ≡ i ∷ flat_map (below tables) (table_at tables i).children

-- a traced plan costs at and below a table at least the value at its times
abbrev pub TracedLaw : Type 0
TracedLaw = (n : Net) (tables : List Table) (p : Plan) (i : ℕ) → AreSoundBelow n tables i → IsTraced n tables p i
    → plan_value p (table_at tables i) ≤ cost_at n p tables (below tables i)

-- a feasible plan that is within a table and those below it costs there at least the table's value at its times
abbrev pub FeasibleLaw : Type 0
FeasibleLaw = (n : Net) (tables : List Table) (p : Plan) (i : ℕ) → Sound n tables → i < length tables → Feasible n p
    → All (λ k. Holds n p (table_at tables k)) (below tables i) → plan_value p (table_at tables i) ≤ cost_at n p tables (below tables i)

-- a feasible plan of a node's range costs at least the node's bound
abbrev pub NodeLaw : Type 0
NodeLaw = (n : Net) (tables : List Table) (r : Range) (roots : List ℕ) (p : Plan) → HasEnds (length n.stages) n.arcs
    → AllByRecursion (AreSoundBelow n tables) roots → IsNode n tables r roots → Feasible n p → IsIn n r p → bound_of tables roots ≤ cost_of n p

-- a value of a tight table is what a traced plan costs, which is any given plan elsewhere
abbrev pub TraceLaw : Type 0
TraceLaw = (n : Net) (tables : List Table) (i x : ℕ) (p : Plan) → AreTightBelow n tables i → IsOnce tables (below tables i)
    → x < length (table_at tables i).values → slice_index (table_at tables i).values x < INF → HasTimes n p
    → (q : Plan) × IsTraceOf n tables i x p q

-- the bound over tight tables is the least that a traced plan costs
abbrev pub WholeLaw : Type 0
WholeLaw = (n : Net) (tables : List Table) (roots : List ℕ) → AllByRecursion (AreTightBelow n tables) roots → IsWhole n tables roots
    → IsLeastTraced n tables roots (bound_of tables roots)
