use Rattle.bound_cert.proofs.BackFacts.{reads_back}
use Rattle.bound_cert.proofs.laws.reads_back.Goals as goal

pub returns : goal.returns
returns c = reads_back
