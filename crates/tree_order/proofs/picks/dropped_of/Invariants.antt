-- The list has those of the arcs that were gone through.
use Rattle.service_model.specs.Net.{arc_in}
use Rattle.service_model.specs.Forests.{ArePicked, IsKept}
use Rattle.tree_order.proofs.picks.dropped_of.Given as goal

abbrev pub invariant-arcs : goal.invariant-arcs
invariant-arcs l = ArePicked (λ a. ¬ IsKept l.parent (arc_in l.arcs a)) l.number l.dropped
