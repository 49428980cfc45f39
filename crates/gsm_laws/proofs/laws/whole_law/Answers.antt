use Rattle.gsm_laws.proofs.WholeFacts.{whole_law}
use Rattle.gsm_laws.proofs.laws.whole_law.Goals as goal

pub returns : goal.returns
returns c = whole_law
