use Rattle.gsm_laws.proofs.NodeFacts.{feasible_law}
use Rattle.gsm_laws.proofs.laws.feasible_law.Goals as goal

pub returns : goal.returns
returns c = feasible_law
