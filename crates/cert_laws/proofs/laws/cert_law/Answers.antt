use Rattle.cert_laws.proofs.CheckFacts.{cert_law}
use Rattle.cert_laws.proofs.laws.cert_law.Goals as goal

pub returns : goal.returns
returns c = cert_law
