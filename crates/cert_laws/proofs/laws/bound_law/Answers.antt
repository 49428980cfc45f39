use Rattle.cert_laws.proofs.CheckFacts.{bound_law}
use Rattle.cert_laws.proofs.laws.bound_law.Goals as goal

pub returns : goal.returns
returns c = bound_law
