use Rattle.bound_cert.proofs.WholeFacts.{whole_back}
use Rattle.bound_cert.proofs.laws.whole_back.Goals as goal

pub returns : goal.returns
returns c = whole_back
