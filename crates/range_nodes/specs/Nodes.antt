-- The nodes of a search: ranges relaxed over a forest, and the tables that they stand on.
use Rattle.std.specs.Prelude.{◌≡◌, ℕ, ◌+◌, ◌<◌, ◌≤◌, List, length, reverse, slice_index, All}
use Rattle.service_model.specs.declared.cert_rules.TheConstants.{MAX_NUMBER}
use Rattle.service_model.specs.declared.range.Range.{Range}
use Rattle.service_model.specs.declared.table.Table.{Table}
use Rattle.service_model.specs.declared.cert.Node.{Node}
use Rattle.service_model.specs.Net.{Net}
use Rattle.service_model.specs.Nodes.{bound_of}
use Rattle.service_model.specs.Relaxed.{IsRelaxedLeast}
use Rattle.service_model.specs.CertRules.{most_floor}
use Rattle.tree_order.specs.declared.forest.Forest.{Forest}
use Rattle.gsm_laws.specs.Traces.{IsWhole}
use Rattle.table_pool.specs.Pools.{IsPool}
use Rattle.arc_relax.specs.StageTables.{HaveTables, root_numbers, IsLonger, StandInOrder}
use Rattle.arc_relax.specs.Laws.{HasPlan}
use Rattle.range_nodes.specs.declared.made.Made.{Made}
use Rattle.range_nodes.specs.Sizes.{IsShortTable}

-- the tables are a pool's; their floors are floors that a range may have, their lists are short, and each has a number
pub record AreSearched (n : Net) (tables : List Table) : Type 0 where
  pub pool : IsPool n tables
  pub floors : All (λ t. t.floor ≤ most_floor n) tables
  pub short : All (IsShortTable n) tables
  pub numbered : length tables ≤ MAX_NUMBER

-- the node is the range, relaxed over the forest
pub record IsRangeNode (n : Net) (f : Forest) (tables : List Table) (r : Range) (x : Node) : Type 0 where
  -- each stage has its table
  pub numbers : List ℕ
  pub stages : HaveTables n r f tables numbers
  -- the roots are the tables of the forest's roots, which its order has by falling stage number; all else stands below them
  pub roots : x.roots ≡ reverse (root_numbers f numbers)
  pub there : All (λ k. k < length tables) x.roots
  pub whole : IsWhole n tables x.roots
  -- the bound is the least cost of the range's plans that meet the kept arcs, and there is such a plan where it is below INF
  pub least : IsRelaxedLeast n r f.parent (bound_of tables x.roots)
  pub plan : HasPlan n r f.parent (bound_of tables x.roots) x.relaxed

-- what relaxing a range made: the node, its bound, and the tables that are new with it
pub record IsMade (n : Net) (f : Forest) (r : Range) (old new : List Table) (count count' : ℕ) (m : Made) : Type 0 where
  pub node : IsRangeNode n f new r m.node
  pub bound : m.bound ≡ bound_of new m.node.roots
  pub seen : m.node.seen ≡ length new
  pub tables : AreSearched n new
  pub longer : IsLonger old new
  -- each new table is a stage's, they stand in the forest's order, and each was one step
  pub fresh : (i : ℕ) → length old ≤ i → i < length new → (j : ℕ) × (j < length n.stages) × (slice_index node.numbers j ≡ i)
  pub turns : StandInOrder f.order new (length old) (length new)
  pub steps : count' + length old ≡ count + length new
  pub few : length new ≤ length old + length n.stages
