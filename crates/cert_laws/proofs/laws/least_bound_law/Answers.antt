use Rattle.cert_laws.proofs.LeafFacts.{least_bound_law}
use Rattle.cert_laws.proofs.laws.least_bound_law.Goals as goal

pub returns : goal.returns
returns c = least_bound_law
