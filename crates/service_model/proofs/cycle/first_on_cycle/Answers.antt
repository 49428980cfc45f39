use Rattle.std.proofs.Common.{◌∙◌, sym}
use Rattle.service_model.proofs.CycleFacts.{full_order}
use Rattle.service_model.proofs.cycle.first_on_cycle.Goals as goal

pub returns-then-len-stages : goal.returns-then-len-stages
returns-then-len-stages c =
    let next = rw (c.in_ok-links.ensures.stages, c.in_ok-links.ensures.arcs) at c.in_ok-order.ensures.next in
    record { first = full_order c.args.stages c.args.arcs.now c.in_ok-order.order next (sym c.len.ensures ∙ c.if-len-stages.true) }
