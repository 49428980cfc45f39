use Rattle.cert_laws.proofs.ItemFacts.{item_more_law}
use Rattle.cert_laws.proofs.laws.item_more_law.Goals as goal

pub returns : goal.returns
returns c = item_more_law
