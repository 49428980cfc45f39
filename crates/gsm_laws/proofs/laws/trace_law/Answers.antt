use Rattle.gsm_laws.proofs.TraceFacts.{trace_law}
use Rattle.gsm_laws.proofs.laws.trace_law.Goals as goal

pub returns : goal.returns
returns c = trace_law
