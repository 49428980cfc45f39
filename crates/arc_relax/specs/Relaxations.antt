-- What relaxing a range gives.
use Rattle.std.specs.Prelude.{◌≡◌, ℕ, ◌+◌, ◌<◌, ◌≤◌, List, MatchOption, length, slice_index}
use Rattle.service_model.specs.declared.limits.TheConstants.{INF}
use Rattle.service_model.specs.declared.plan.Plan.{Plan}
use Rattle.service_model.specs.declared.range.Range.{Range}
use Rattle.service_model.specs.declared.table.Table.{Table}
use Rattle.service_model.specs.Net.{Net}
use Rattle.service_model.specs.Plans.{HasTimes, cost_of}
use Rattle.service_model.specs.Nodes.{bound_of}
use Rattle.service_model.specs.Relaxed.{IsRelaxedLeast}
use Rattle.tree_order.specs.declared.forest.Forest.{Forest}
use Rattle.gsm_laws.specs.Traces.{IsTracedNode, IsWhole}
use Rattle.table_pool.specs.Pools.{IsPool}
use Rattle.arc_relax.specs.declared.relaxed.Relaxed.{Relaxed}
use Rattle.arc_relax.specs.StageTables.{HaveTables, root_numbers, IsLonger, StandInOrder}
use Rattle.arc_relax.specs.Laws.{HasPlan}

-- the plan is within the tables at or below the roots, meets the arcs between them and costs the bound, which is below INF
pub record IsTracedPlan (n : Net) (tables : List Table) (roots : List ℕ) (bound : ℕ) (p : Plan) : Type 0 where
  pub times : HasTimes n p
  pub traced : IsTracedNode n tables p roots
  pub cost : cost_of n p ≡ bound
  pub small : bound < INF

-- what is read from the roots' tables: their bound, and a plan that costs it, where it is below INF
pub record IsRead (n : Net) (tables : List Table) (roots : List ℕ) (x : Relaxed) : Type 0 where
  pub roots_are : x.roots ≡ roots
  pub bound : x.bound ≡ bound_of tables roots
  pub plan : MatchOption x.plan (x.bound ≡ INF) (IsTracedPlan n tables roots x.bound)

-- what relaxing the range gives, and what the pool then holds
pub record IsRelaxed (n : Net) (f : Forest) (r : Range) (old new : List Table) (count count' : ℕ) (x : Relaxed) : Type 0 where
  -- the least cost of the range's plans that meet the kept arcs, and such a plan
  pub least : IsRelaxedLeast n r f.parent x.bound
  pub plan : HasPlan n r f.parent x.bound x.plan
  -- each stage has its table; the roots are those of the forest's roots, and there is nothing else below them
  pub numbers : List ℕ
  pub tables : HaveTables n r f new numbers
  pub roots : x.roots ≡ root_numbers f numbers
  pub whole : IsWhole n new x.roots
  pub bound : x.bound ≡ bound_of new x.roots
  -- the pool has more tables at its end: each is a stage's, and was one step; they stand in the forest's order
  pub pool : IsPool n new
  pub longer : IsLonger old new
  pub fresh : (i : ℕ) → length old ≤ i → i < length new → (j : ℕ) × (j < length n.stages) × (slice_index numbers j ≡ i)
  pub turns : StandInOrder f.order new (length old) (length new)
  pub steps : count' + length old ≡ count + length new
