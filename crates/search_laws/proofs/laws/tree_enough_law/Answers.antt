use Rattle.search_laws.proofs.EnoughFacts.{tree_enough_law}
use Rattle.search_laws.proofs.laws.tree_enough_law.Goals as goal

pub returns : goal.returns
returns c = tree_enough_law
