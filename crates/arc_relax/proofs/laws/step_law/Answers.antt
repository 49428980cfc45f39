use Rattle.arc_relax.proofs.CountFacts.{step_law}
use Rattle.arc_relax.proofs.laws.step_law.Goals as goal

pub returns : goal.returns
returns c = step_law
