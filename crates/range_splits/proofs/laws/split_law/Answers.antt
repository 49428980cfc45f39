use Rattle.range_splits.proofs.SplitFacts.{split_law}
use Rattle.range_splits.proofs.laws.split_law.Goals as goal

pub returns : goal.returns
returns c = split_law
