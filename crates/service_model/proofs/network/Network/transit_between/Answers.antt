use Rattle.std.proofs.Common.{position, sym, ap, ◌∙◌, is_some}
use Rattle.std.specs.List.{list_any}
use Rattle.service_model.specs.declared.stage.SupplyArc.{SupplyArc}
use Rattle.service_model.specs.Net.{Net, net_of, no_arc}
use Rattle.service_model.specs.Tables.{transit_in}
use Rattle.service_model.specs.ArcEnds.{has_these}
use Rattle.service_model.proofs.ArcEndFacts.{transit_of_none, transit_at_place}
use Rattle.service_model.proofs.network.Network.transit_between.Goals as goal

pub returns-in-Some-clause-value : goal.returns-in-Some-clause-value
returns-in-Some-clause-value c =
    let i = c.args.supplier in
    let j = c.args.customer in
    let had = c.self.inside in
    let at = ap (position (has_these i j)) (sym c.self.invariant.1) ∙ sym c.place_of.ensures.value ∙ c.in-Some.is in
    let own = transit_at_place (net_of had.horizon had.stages had.arcs) i j c.in-Some.place c.self.invariant.0 at in
    ap (λ (a : SupplyArc). a.transit) (sym (c.get.ensures.whatever_else no_arc)) ∙ sym own ∙ ap (λ (n : Net). transit_in n.arcs i j) c.self.view_is

pub returns-in-None-clause-value : goal.returns-in-None-clause-value
returns-in-None-clause-value c =
    let i = c.args.supplier in
    let j = c.args.customer in
    let had = c.self.inside in
    let none = ap (list_any (has_these i j)) (sym c.self.invariant.1) ∙ sym c.place_of.ensures.found ∙ ap is_some c.in-None.is in
    sym (transit_of_none had.arcs i j none) ∙ ap (λ (n : Net). transit_in n.arcs i j) c.self.view_is
