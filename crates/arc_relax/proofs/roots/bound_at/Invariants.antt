-- The bound of the roots behind.
use Rattle.std.proofs.Common.{◌≡◌, take}
use Rattle.service_model.specs.Nodes.{bound_of}
use Rattle.arc_relax.proofs.roots.bound_at.Given as goal

abbrev pub invariant-roots : goal.invariant-roots
invariant-roots l = l.bound ≡ bound_of l.made (take l.root-index l.roots)
