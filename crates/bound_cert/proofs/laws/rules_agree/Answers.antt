use Rattle.bound_cert.proofs.BrokenFacts.{rules_agree}
use Rattle.bound_cert.proofs.laws.rules_agree.Goals as goal

pub returns : goal.returns
returns c = rules_agree
