use Rattle.cert_laws.proofs.EndingFacts.{ending_one_law}
use Rattle.cert_laws.proofs.laws.ending_one_law.Goals as goal

pub returns : goal.returns
returns c = ending_one_law
