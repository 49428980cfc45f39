use Rattle.cert_laws.proofs.RepairFacts.{repair_law}
use Rattle.cert_laws.proofs.laws.repair_law.Goals as goal

pub returns : goal.returns
returns c = repair_law
