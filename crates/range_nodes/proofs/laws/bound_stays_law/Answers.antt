use Rattle.range_nodes.proofs.StayFacts.{bound_stays}
use Rattle.range_nodes.proofs.laws.bound_stays_law.Goals as goal

pub returns : goal.returns
returns c = bound_stays
