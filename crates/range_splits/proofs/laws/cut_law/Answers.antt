use Rattle.range_splits.proofs.CutFacts.{cut_law}
use Rattle.range_splits.proofs.laws.cut_law.Goals as goal

pub returns : goal.returns
returns c = cut_law
