use Rattle.cert_laws.proofs.GrownFacts.{grown_law}
use Rattle.cert_laws.proofs.laws.grown_law.Goals as goal

pub returns : goal.returns
returns c = grown_law
