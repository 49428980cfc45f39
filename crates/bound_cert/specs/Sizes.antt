-- How many numbers an item may have at most for its line to be short, whatever the numbers are.
use Rattle.std.specs.Prelude.{ℕ, ◌≤◌, length, IfSome, ⊤}
use Rattle.service_model.specs.declared.plan.Plan.{Plan}
use Rattle.service_model.specs.declared.table.Table.{Table}
use Rattle.service_model.specs.declared.cert.Node.{Node}
use Rattle.service_model.specs.declared.cert.Item.{Item}
use Rattle.service_model.specs.declared.cert.Item.TheVariants.{Head as HeadItem, Table as TableItem, Node as NodeItem, Split as SplitItem, End as EndItem}

-- so many stages: twice the most of a network
abbrev pub few_stages : ℕ
few_stages = 2000

-- so many values of a table: one for each time of a horizon of 1,000, and one more
abbrev pub few_values : ℕ
few_values = 1002

-- a plan has at most so many times of each kind
pub record HasFewTimes (p : Plan) : Type 0 where
  pub inbound : length p.inbound ≤ few_stages
  pub outbound : length p.outbound ≤ few_stages

-- a table has at most so many children and values
pub record IsSmallTable (t : Table) : Type 0 where
  pub children : length t.children ≤ few_stages
  pub values : length t.values ≤ few_values

-- a node has at most so many roots and times
pub record IsSmallNode (x : Node) : Type 0 where
  pub roots : length x.roots ≤ few_stages
  pub relaxed : IfSome x.relaxed HasFewTimes

-- the item has few numbers; a head and a split always have
abbrev pub HasFewNumbers : Item → Type 0
HasFewNumbers (HeadItem h) = ⊤
HasFewNumbers (TableItem t) = IsSmallTable t
HasFewNumbers (NodeItem x) = IsSmallNode x
HasFewNumbers (SplitItem s) = ⊤
HasFewNumbers (EndItem v) = IfSome v.plan HasFewTimes
