use Rattle.range_nodes.proofs.PlanFacts.{relaxed_at}
use Rattle.range_nodes.proofs.laws.relaxed_at_law.Goals as goal

pub returns : goal.returns
returns c = relaxed_at
