use Rattle.bound_cert.proofs.WholeFacts.{items_back}
use Rattle.bound_cert.proofs.laws.items_back.Goals as goal

pub returns : goal.returns
returns c = items_back
