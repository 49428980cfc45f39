use Rattle.range_nodes.proofs.StayFacts.{node_stays}
use Rattle.range_nodes.proofs.laws.node_stays_law.Goals as goal

pub returns : goal.returns
returns c = node_stays
