-- A range over a forest, with what the stages' tables need.
use Rattle.std.specs.Prelude.{◌≡◌, length}
use Rattle.service_model.specs.declared.range.Range.{Range}
use Rattle.service_model.specs.Net.{Net}
use Rattle.service_model.specs.Networks.{IsNetwork}
use Rattle.service_model.specs.Ranges.{HasIntervals, AreFloors}
use Rattle.tree_order.specs.declared.forest.Forest.{Forest}
use Rattle.tree_order.specs.Forest.{IsForest}
use Rattle.arc_relax.specs.declared.node.Node.{Node}
use Rattle.arc_relax.specs.Kinds.{AreKinds}

-- the node is a range over the forest of its network, with the kinds and the floors of all stages
pub record IsNode (x : Node) : Type 0 where
  pub network : IsNetwork x.network.now
  pub forest : IsForest (length x.network.now.stages) x.network.now.arcs x.forest.now
  pub range : HasIntervals x.network.now x.range.now
  pub kinds : AreKinds x.network.now.arcs x.forest.now.parent x.kinds
  pub floors : AreFloors x.network.now x.range.now x.floors

-- the node is of this network, this forest and this range
pub record IsOf (n : Net) (f : Forest) (r : Range) (x : Node) : Type 0 where
  pub network : x.network.now ≡ n
  pub forest : x.forest.now ≡ f
  pub range : x.range.now ≡ r
