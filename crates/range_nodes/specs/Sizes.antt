-- How long the lists of tables and nodes are.
use Rattle.std.specs.Prelude.{◌+◌, ◌≤◌, length, IfSome}
use Rattle.service_model.specs.declared.table.Table.{Table}
use Rattle.service_model.specs.declared.cert.Node.{Node}
use Rattle.service_model.specs.Net.{Net}
use Rattle.service_model.specs.Plans.{HasTimes}

-- the table has at most a child for each stage and a value for each time up to the horizon
pub record IsShortTable (n : Net) (t : Table) : Type 0 where
  pub children : length t.children ≤ length n.stages
  pub values : length t.values ≤ n.horizon + 1

-- the node has at most a root for each stage, and its plan two times for each
pub record IsShortNode (n : Net) (x : Node) : Type 0 where
  pub roots : length x.roots ≤ length n.stages
  pub relaxed : IfSome x.relaxed (HasTimes n)
