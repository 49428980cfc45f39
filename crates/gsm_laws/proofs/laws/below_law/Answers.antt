use Rattle.gsm_laws.proofs.BelowFacts.{below_law}
use Rattle.gsm_laws.proofs.laws.below_law.Goals as goal

pub returns : goal.returns
returns c = below_law
