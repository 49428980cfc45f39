-- The next arc is in the list exactly where it is not kept.
use Rattle.std.proofs.Common.{not}
use Rattle.std.proofs.lemmas.Bool.{both_ways, not-true, not-false}
use Rattle.service_model.specs.Net.{arc_in}
use Rattle.service_model.specs.Forests.{IsKept}
use Rattle.tree_order.proofs.PickFacts.{picked_if}
use Rattle.tree_order.proofs.picks.dropped_of.Goals as goal

pub arcs-preserved : goal.arcs-preserved
arcs-preserved c =
    picked_if (λ a. ¬ IsKept c.args.parent.now (arc_in c.args.arcs.now a)) c.arcs.number c.arcs.dropped c.push_if.new.numbers (not c.is_kept-kept.result) c.arcs.invariant
    (λ on kept. both_ways _ (not-true _ on) (c.is_kept-kept.ensures.1 kept))
    (λ off out. out (c.is_kept-kept.ensures.0 (not-false _ off)))
    c.in_ok-push_if.ensures
