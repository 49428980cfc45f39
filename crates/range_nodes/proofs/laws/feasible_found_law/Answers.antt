use Rattle.range_nodes.proofs.PlanFacts.{feasible_found}
use Rattle.range_nodes.proofs.laws.feasible_found_law.Goals as goal

pub returns : goal.returns
returns c = feasible_found
