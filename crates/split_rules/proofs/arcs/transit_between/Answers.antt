use Rattle.std.proofs.Common.{◌≡◌, ◌<◌, List, length, Some, ap, sym, ◌∙◌, subst, rules}
use Rattle.service_model.specs.declared.stage.SupplyArc.{SupplyArc}
use Rattle.service_model.specs.Net.{no_arc, arc_in}
use Rattle.split_rules.specs.Arcs.{IsTransit}
use Rattle.split_rules.proofs.TransitFacts.{Joins, found_transit, joined_ends}
use Rattle.split_rules.proofs.arcs.transit_between.Goals as goal

pub returns-then-arc-customer-clause-value : goal.returns-then-arc-customer-clause-value
returns-then-arc-customer-clause-value c =
    let n = c.args.network.now in
    let is : arc_in n.arcs c.arcs.a ≡ c.get-arc.result.now =
    ap (λ (arcs : List SupplyArc). arc_in arcs c.arcs.a) (sym c.arcs-in-arcs.ensures.value) ∙ c.get-arc.ensures.whatever_else no_arc in
    let within : c.arcs.a < length n.arcs = search rules in
    let joins : Joins n.arcs c.args.supplier c.args.customer c.arcs.a =
    (ap (λ (x : SupplyArc). x.supplier) is ∙ c.if-arc-supplier.true, ap (λ (x : SupplyArc). x.customer) is ∙ c.if-arc-customer.true) in
    subst (λ (x : SupplyArc). IsTransit n.arcs c.args.supplier c.args.customer (Some x.transit)) is
    (found_transit n c.args.supplier c.args.customer c.arcs.a c.arcs-2.ensures.valid within joins)

pub returns-then-arc-customer-clause-ends : goal.returns-then-arc-customer-clause-ends
returns-then-arc-customer-clause-ends c =
    let n = c.args.network.now in
    let is : arc_in n.arcs c.arcs.a ≡ c.get-arc.result.now =
    ap (λ (arcs : List SupplyArc). arc_in arcs c.arcs.a) (sym c.arcs-in-arcs.ensures.value) ∙ c.get-arc.ensures.whatever_else no_arc in
    let within : c.arcs.a < length n.arcs = search rules in
    joined_ends n c.args.supplier c.args.customer c.arcs.a c.arcs-2.ensures.valid within
    (ap (λ (x : SupplyArc). x.supplier) is ∙ c.if-arc-supplier.true, ap (λ (x : SupplyArc). x.customer) is ∙ c.if-arc-customer.true)
