use Rattle.trial_rows.proofs.PassFacts.{passes_law}
use Rattle.trial_rows.proofs.laws.passes.Goals as goal

pub returns : goal.returns
returns c = passes_law
