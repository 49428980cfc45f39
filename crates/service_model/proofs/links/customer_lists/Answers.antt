use Rattle.std.proofs.Common.{arith, ℕ, ◌++◌, ◌<◌, length, ◌∷◌, List, [], ◌∙◌, ap}
use Rattle.std.proofs.lemmas.List.{get_or_read}
use Rattle.service_model.specs.Net.{no_arc, arc_in}
use Rattle.service_model.proofs.CustomerFacts.{lists_more}
use Rattle.service_model.proofs.links.customer_lists.Goals as goal

pub loop-arc-preserved : goal.loop-arc-preserved
loop-arc-preserved c =
    let arcs = c.args.arcs.now in
    let k = c.loop-arc.arc-index in
    let low : (arc_in c.args.arcs.now c.loop-arc.arc-index).supplier < length c.loop-arc.lists.items = omega (arith, c.loop-arc.invariant.long, (c.requires k no_arc c.loop-arc-test.true).0) in
    lists_more c.args.stages arcs k c.loop-arc.lists.items c.push.new.self c.loop-arc-test.true c.requires c.loop-arc.invariant
    (c.in_ok-push.ensures.ok ∙ ap (λ (xs : List ℕ). xs ++ (arc_in c.args.arcs.now c.loop-arc.arc-index).customer ∷ []) (get_or_read _ _ _ low c.index_mut.ensures.value []))
