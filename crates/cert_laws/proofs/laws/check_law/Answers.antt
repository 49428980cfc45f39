use Rattle.cert_laws.proofs.CheckFacts.{check_law}
use Rattle.cert_laws.proofs.laws.check_law.Goals as goal

pub returns : goal.returns
returns c = check_law
