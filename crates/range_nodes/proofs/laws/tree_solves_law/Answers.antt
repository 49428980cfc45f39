use Rattle.range_nodes.proofs.PlanFacts.{tree_solves}
use Rattle.range_nodes.proofs.laws.tree_solves_law.Goals as goal

pub returns : goal.returns
returns c = tree_solves
