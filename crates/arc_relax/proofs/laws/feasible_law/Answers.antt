use Rattle.arc_relax.proofs.RangeLaws.{feasible_law}
use Rattle.arc_relax.proofs.laws.feasible_law.Goals as goal

pub returns : goal.returns
returns c = feasible_law
