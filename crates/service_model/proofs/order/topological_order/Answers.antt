use Rattle.std.proofs.Common.{◌≡◌, ◌∙◌, length, ap}
use Rattle.service_model.proofs.CycleFacts.{all_taken}
use Rattle.service_model.proofs.order.topological_order.Goals as goal

pub returns : goal.returns
returns c =
    let stages : c.in_ok-links.links.stages ≡ length c.args.network.now.stages = c.in_ok-links.ensures.stages ∙ c.len.ensures ∙ ap length c.stages.ensures.value in
    let arcs : c.in_ok-links.links.arcs.now ≡ c.args.network.now.arcs = c.in_ok-links.ensures.arcs ∙ c.as_slice.ensures ∙ c.arcs.ensures.value in
    all_taken (length c.args.network.now.stages) c.args.network.now.arcs c.in_ok-order.order (rw (stages, arcs) at c.in_ok-links.links.ends) (rw (stages, arcs) at c.in_ok-order.ensures) c.arcs.ensures.valid.acyclic
