use Rattle.std.proofs.Common.{◌≡◌, length, map, List, sym, ap, ◌∙◌, subst}
use Rattle.std.proofs.lemmas.Result.{IfOk-weaker}
use Rattle.service_model.specs.declared.stage.SupplyArc.{SupplyArc}
use Rattle.service_model.specs.Customers.{HasEnds}
use Rattle.service_model.specs.Orders.{IsFront}
use Rattle.demand_tables.specs.DemandFaults.{turned, IsDemandOrder}
use Rattle.demand_tables.proofs.ArcFacts.{turned_ends}
use Rattle.demand_tables.proofs.OrderFacts.{all_taken}
use Rattle.demand_tables.proofs.demand.demand_order.Goals as goal

pub lowest_first-requires-clause-ends : goal.lowest_first-requires-clause-ends
lowest_first-requires-clause-ends c =
    let raw = c.args.raw.now in
    let arcs : c.as_slice-2.result.now ≡ map turned c.args.raw.now.arcs = c.as_slice-2.ensures ∙ c.in_ok-arcs.ensures ∙ ap (map turned) c.as_slice.ensures in
    subst (λ (xs : List SupplyArc). HasEnds c.len.result xs) (sym arcs)
    (subst (λ n. HasEnds n (map turned c.args.raw.now.arcs)) (sym c.len.ensures) (turned_ends (length raw.stages) raw.arcs c.requires.net.ends))

pub returns : goal.returns
returns c =
    let raw = c.args.raw.now in
    let arcs : c.as_slice-2.result.now ≡ map turned c.args.raw.now.arcs = c.as_slice-2.ensures ∙ c.in_ok-arcs.ensures ∙ ap (map turned) c.as_slice.ensures in
    IfOk-weaker c.lowest_first.result (IsFront c.len.result c.as_slice-2.result.now) (IsDemandOrder raw)
    (λ order front. all_taken raw order c.requires.net.ends c.requires.acyclic
    (subst (λ n. IsFront n (map turned c.args.raw.now.arcs) order) c.len.ensures (subst (λ (xs : List SupplyArc). IsFront c.len.result xs order) arcs front)))
    c.lowest_first.ensures
