use Rattle.cert_laws.proofs.GrowFacts.{node_stays_law}
use Rattle.cert_laws.proofs.laws.node_stays_law.Goals as goal

pub returns : goal.returns
returns c = node_stays_law
