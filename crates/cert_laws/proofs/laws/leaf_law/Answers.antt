use Rattle.cert_laws.proofs.LeafFacts.{leaf_law}
use Rattle.cert_laws.proofs.laws.leaf_law.Goals as goal

pub returns : goal.returns
returns c = leaf_law
