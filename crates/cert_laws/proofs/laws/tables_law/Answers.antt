use Rattle.cert_laws.proofs.TablesKeptFacts.{tables_law}
use Rattle.cert_laws.proofs.laws.tables_law.Goals as goal

pub returns : goal.returns
returns c = tables_law
