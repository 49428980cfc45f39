use Rattle.cert_check.proofs.RefusalFacts.{not_both_law}
use Rattle.cert_check.proofs.laws.not_both_law.Goals as goal

pub returns : goal.returns
returns c = not_both_law
