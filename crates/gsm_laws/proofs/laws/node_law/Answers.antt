use Rattle.gsm_laws.proofs.NodeFacts.{node_law}
use Rattle.gsm_laws.proofs.laws.node_law.Goals as goal

pub returns : goal.returns
returns c = node_law
