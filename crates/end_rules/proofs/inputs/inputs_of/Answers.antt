use Rattle.std.proofs.Common.{◌≡◌, ◌<◌, ◌++◌, [], ◌∷◌, List, length, add-one, ap, ◌∙◌, arith, rules}
use Rattle.std.proofs.lemmas.List.{get_or_read}
use Rattle.service_model.specs.declared.stage.SupplyArc.{SupplyArc}
use Rattle.service_model.specs.Net.{arc_in}
use Rattle.end_rules.proofs.InputFacts.{inputs_more}
use Rattle.end_rules.proofs.inputs.inputs_of.Goals as goal

pub arcs-preserved : goal.arcs-preserved
arcs-preserved c =
    let n = c.args.network.now in
    let k = c.arcs.a in
    let within : k < length n.arcs = search rules in
    let arc : c.get-arc.result.now ≡ arc_in n.arcs k = search rules in
    let there : (arc_in n.arcs k).customer < length c.arcs.inputs.items =
    omega (arith, c.arcs.invariant.long, (c.arcs-arcs.ensures.valid.arcs k within).customer) in
    let read = rw arc at c.index_mut.ensures.value in
    let pushed = rw arc at c.in_ok-push.ensures.ok in
    rw (add-one, arc)
    (inputs_more n k c.arcs.inputs.items c.push.new.self within there c.arcs.invariant
    (pushed ∙ ap (λ (xs : List SupplyArc). xs ++ arc_in n.arcs k ∷ []) (get_or_read _ _ _ there read [])))
