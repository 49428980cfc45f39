use Rattle.range_splits.proofs.LeafFacts.{leaves_law}
use Rattle.range_splits.proofs.laws.leaves_law.Goals as goal

pub returns : goal.returns
returns c = leaves_law
