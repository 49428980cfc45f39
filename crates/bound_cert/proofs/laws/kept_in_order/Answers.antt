use Rattle.bound_cert.proofs.SeenFacts.{kept_in_order}
use Rattle.bound_cert.proofs.laws.kept_in_order.Goals as goal

pub returns : goal.returns
returns c = kept_in_order
