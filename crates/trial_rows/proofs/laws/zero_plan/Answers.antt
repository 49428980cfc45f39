use Rattle.trial_rows.proofs.ZeroFacts.{zero_plan_law}
use Rattle.trial_rows.proofs.laws.zero_plan.Goals as goal

pub returns : goal.returns
returns c = zero_plan_law
