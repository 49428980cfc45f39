use Rattle.cert_check.proofs.RefusalFacts.{refusal_one_law}
use Rattle.cert_check.proofs.laws.refusal_one_law.Goals as goal

pub returns : goal.returns
returns c = refusal_one_law
