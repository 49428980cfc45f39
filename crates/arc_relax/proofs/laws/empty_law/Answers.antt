use Rattle.arc_relax.proofs.RangeLaws.{empty_law}
use Rattle.arc_relax.proofs.laws.empty_law.Goals as goal

pub returns : goal.returns
returns c = empty_law
