use Rattle.cert_laws.proofs.FoundFacts.{found_more_law}
use Rattle.cert_laws.proofs.laws.found_more_law.Goals as goal

pub returns : goal.returns
returns c = found_more_law
