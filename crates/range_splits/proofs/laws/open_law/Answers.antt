use Rattle.range_splits.proofs.OpenFacts.{open_law}
use Rattle.range_splits.proofs.laws.open_law.Goals as goal

pub returns : goal.returns
returns c = open_law
