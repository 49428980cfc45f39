use Rattle.bound_cert.proofs.StreamFacts.{any_cut}
use Rattle.bound_cert.proofs.laws.any_cut.Goals as goal

pub returns : goal.returns
returns c = any_cut
