use Rattle.arc_relax.proofs.RangeLaws.{tree_law}
use Rattle.arc_relax.proofs.laws.tree_law.Goals as goal

pub returns : goal.returns
returns c = tree_law
