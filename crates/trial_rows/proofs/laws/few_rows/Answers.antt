use Rattle.trial_rows.proofs.FewFacts.{rows_law}
use Rattle.trial_rows.proofs.laws.few_rows.Goals as goal

pub returns : goal.returns
returns c = rows_law
