use Rattle.bound_cert.proofs.SeenFacts.{seen_law}
use Rattle.bound_cert.proofs.laws.seen_law.Goals as goal

pub returns : goal.returns
returns c = seen_law
