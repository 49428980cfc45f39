use Rattle.range_nodes.proofs.PlanFacts.{short_node}
use Rattle.range_nodes.proofs.laws.short_node_law.Goals as goal

pub returns : goal.returns
returns c = short_node
