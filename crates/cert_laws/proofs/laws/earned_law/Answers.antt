use Rattle.cert_laws.proofs.EarnedFacts.{earned_law}
use Rattle.cert_laws.proofs.laws.earned_law.Goals as goal

pub returns : goal.returns
returns c = earned_law
