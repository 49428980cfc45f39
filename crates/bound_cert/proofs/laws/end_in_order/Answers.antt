use Rattle.bound_cert.proofs.OrderFacts.{end_in_order}
use Rattle.bound_cert.proofs.laws.end_in_order.Goals as goal

pub returns : goal.returns
returns c = end_in_order
