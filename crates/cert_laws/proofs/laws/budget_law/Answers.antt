use Rattle.cert_laws.proofs.EarnedFacts.{budget_law}
use Rattle.cert_laws.proofs.laws.budget_law.Goals as goal

pub returns : goal.returns
returns c = budget_law
