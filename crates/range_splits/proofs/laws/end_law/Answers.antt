use Rattle.range_splits.proofs.EndFacts.{end_law}
use Rattle.range_splits.proofs.laws.end_law.Goals as goal

pub returns : goal.returns
returns c = end_law
