use Rattle.cert_laws.proofs.CheckFacts.{accepted_law}
use Rattle.cert_laws.proofs.laws.accepted_law.Goals as goal

pub returns : goal.returns
returns c = accepted_law
