-- The lists have the children among the stages that were gone through.
use Rattle.std.proofs.Common.{length}
use Rattle.service_model.specs.Forests.{IsChildOf, ArePickedFor}
use Rattle.tree_order.proofs.picks.children_of.Given as goal

abbrev pub invariant-stages : goal.invariant-stages
invariant-stages l = ArePickedFor (IsChildOf l.parent) (length l.parent) l.stage l.lists.items
