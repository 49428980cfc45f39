use Rattle.range_splits.proofs.NextFacts.{next_law}
use Rattle.range_splits.proofs.laws.next_law.Goals as goal

pub returns : goal.returns
returns c = next_law
