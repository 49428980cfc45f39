use Rattle.range_nodes.proofs.NodeFacts.{stage_below}
use Rattle.range_nodes.proofs.laws.stage_below_law.Goals as goal

pub returns : goal.returns
returns c = stage_below
