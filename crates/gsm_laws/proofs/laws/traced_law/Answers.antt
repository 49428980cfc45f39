use Rattle.gsm_laws.proofs.TracedFacts.{traced_law}
use Rattle.gsm_laws.proofs.laws.traced_law.Goals as goal

pub returns : goal.returns
returns c = traced_law
