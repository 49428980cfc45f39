use Rattle.cert_laws.proofs.FaultFacts.{no_fault_law}
use Rattle.cert_laws.proofs.laws.no_fault_law.Goals as goal

pub returns : goal.returns
returns c = no_fault_law
