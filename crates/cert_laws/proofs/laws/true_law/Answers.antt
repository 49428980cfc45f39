use Rattle.cert_laws.proofs.TruthFacts.{true_law}
use Rattle.cert_laws.proofs.laws.true_law.Goals as goal

pub returns : goal.returns
returns c = true_law
