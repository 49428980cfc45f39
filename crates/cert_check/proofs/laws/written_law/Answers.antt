use Rattle.cert_check.proofs.WrittenFacts.{written_law}
use Rattle.cert_check.proofs.laws.written_law.Goals as goal

pub returns : goal.returns
returns c = written_law
