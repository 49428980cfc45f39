use Rattle.range_splits.proofs.BreakFacts.{break_law}
use Rattle.range_splits.proofs.laws.break_law.Goals as goal

pub returns : goal.returns
returns c = break_law
