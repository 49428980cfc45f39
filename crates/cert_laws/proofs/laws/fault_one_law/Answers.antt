use Rattle.cert_laws.proofs.FaultFacts.{fault_one_law}
use Rattle.cert_laws.proofs.laws.fault_one_law.Goals as goal

pub returns : goal.returns
returns c = fault_one_law
