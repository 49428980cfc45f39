use Rattle.cert_laws.proofs.GrownFacts.{first_law}
use Rattle.cert_laws.proofs.laws.first_law.Goals as goal

pub returns : goal.returns
returns c = first_law
