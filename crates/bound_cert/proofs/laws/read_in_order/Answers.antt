use Rattle.bound_cert.proofs.OrderFacts.{read_in_order}
use Rattle.bound_cert.proofs.laws.read_in_order.Goals as goal

pub returns : goal.returns
returns c = read_in_order
