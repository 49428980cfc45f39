use Rattle.search_laws.proofs.EnoughFacts.{nodes_law}
use Rattle.search_laws.proofs.laws.nodes_law.Goals as goal

pub returns : goal.returns
returns c = nodes_law
