use Rattle.bound_cert.proofs.WholeFacts.{lines_back}
use Rattle.bound_cert.proofs.laws.lines_back.Goals as goal

pub returns : goal.returns
returns c = lines_back
