use Rattle.cert_laws.proofs.GrowFacts.{table_more_law}
use Rattle.cert_laws.proofs.laws.table_more_law.Goals as goal

pub returns : goal.returns
returns c = table_more_law
