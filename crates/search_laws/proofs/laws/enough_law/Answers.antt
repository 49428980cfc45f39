use Rattle.search_laws.proofs.EnoughFacts.{enough_law}
use Rattle.search_laws.proofs.laws.enough_law.Goals as goal

pub returns : goal.returns
returns c = enough_law
