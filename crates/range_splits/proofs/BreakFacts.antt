-- The arc that a plan breaks most is one that it breaks.
use Rattle.std.proofs.Common.{◌≡◌, ℕ, ◌+◌, ◌<◌, sym, ap, ◌∙◌, arith}
use Rattle.service_model.specs.declared.plan.Plan.{Plan}
use Rattle.service_model.specs.Net.{Net, arc_in}
use Rattle.service_model.specs.Plans.{inbound_at, outbound_at}
use Rattle.service_model.specs.Networks.{IsNetwork}
use Rattle.service_model.specs.Tables.{transit_in}
use Rattle.service_model.specs.Held.{relaxed_at}
use Rattle.service_model.proofs.ArcFacts.{transit_in-arc, supplies_from_leads}
use Rattle.range_splits.specs.Breaks.{IsMostBroken}
use Rattle.range_splits.specs.Laws.{BreakLaw}

broken_at : (n : Net) (p : Plan) (a i j : ℕ) → IsNetwork n → IsMostBroken n p a → i ≡ (arc_in n.arcs a).supplier → j ≡ (arc_in n.arcs a).customer
    → inbound_at p j < outbound_at p i + transit_in n.arcs i j
broken_at n p a i j valid broken from to =
    let x = arc_in n.arcs a in
    let transit : transit_in n.arcs i j ≡ x.transit =
    ap (λ k. transit_in n.arcs k j) from ∙ ap (λ k. transit_in n.arcs x.supplier k) to ∙ transit_in-arc n a valid broken.there in
    let late = broken.broken in
    omega (arith, late, transit, ap (outbound_at p) from, ap (inbound_at p) to)

pub break_law : BreakLaw
break_law n h s a valid broken from to = record {
  arc = supplies_from_leads n.arcs s.supplier s.customer (a, broken.there, sym from, sym to);
  broken = broken_at n (relaxed_at h.nodes s.node) a s.supplier s.customer valid broken from to;
}
