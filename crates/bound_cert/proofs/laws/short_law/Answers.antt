use Rattle.bound_cert.proofs.ShortFacts.{short_law}
use Rattle.bound_cert.proofs.laws.short_law.Goals as goal

pub returns : goal.returns
returns c = short_law
