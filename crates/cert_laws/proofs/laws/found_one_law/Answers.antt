use Rattle.cert_laws.proofs.RepairFacts.{found_one_law}
use Rattle.cert_laws.proofs.laws.found_one_law.Goals as goal

pub returns : goal.returns
returns c = found_one_law
