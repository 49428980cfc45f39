use Rattle.std.proofs.Common.{◌≡◌, length, Some, sym, rules}
use Rattle.service_model.specs.declared.breaks.TheConstants.{NOT_WAITED}
use Rattle.service_model.specs.Breaks.{arc_break}
use Rattle.service_model.proofs.SearchFacts.{first_below_found}
use Rattle.service_model.proofs.network.Network.broken_at_arc.Goals as goal

pub returns-then-arrival-inbound : goal.returns-then-arrival-inbound
returns-then-arrival-inbound c =
    let n = c.args.self.now in
    let p = c.args.plan.now in
    let here : arc_break n p c.arcs.a ≡ Some (record { rule = NOT_WAITED; place = c.arcs.a }) = search rules in
    sym (first_below_found (arc_break n p) (length n.arcs) c.arcs.a _ c.arcs.invariant (search rules) here)
