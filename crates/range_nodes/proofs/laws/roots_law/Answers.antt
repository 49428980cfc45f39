use Rattle.range_nodes.proofs.PlanFacts.{roots_rule}
use Rattle.range_nodes.proofs.laws.roots_law.Goals as goal

pub returns : goal.returns
returns c = roots_rule
