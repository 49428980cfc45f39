-- An interval that is cut holds the time at which it is cut, and the next.
use Rattle.std.proofs.Common.{◌≡◌, ◌≤◌, ap, arith}
use Rattle.std.specs.Prelude.{unwrap_or}
use Rattle.service_model.specs.declared.plan.Plan.{Plan}
use Rattle.service_model.specs.Plans.{outbound_at, inbound_at}
use Rattle.service_model.specs.Ranges.{floor_of}
use Rattle.service_model.specs.Held.{no_plan, relaxed_at, range_of}
use Rattle.service_model.proofs.NetworkFacts.{IsNetwork-HasEnds}
use Rattle.cert_laws.proofs.SplitFacts.{is_cut, ends_there}
use Rattle.cert_laws.proofs.FloorFacts.{floor_ge}
use Rattle.range_splits.specs.Laws.{CutLaw}

pub cut_law : CutLaw
cut_law n h s valid cuts next relaxed breaks =
    let ends = IsNetwork-HasEnds n valid in
    let cut = is_cut n h s ends cuts next relaxed breaks in
    let p = relaxed.plan in
    let plan : relaxed_at h.nodes s.node ≡ p = ap (λ o. unwrap_or o no_plan) relaxed.there in
    let outbound : outbound_at (relaxed_at h.nodes s.node) s.supplier ≡ outbound_at p s.supplier = ap (λ (q : Plan). outbound_at q s.supplier) plan in
    let there = ends_there n s.supplier s.customer ends breaks.arc in
    let inbound : inbound_at (relaxed_at h.nodes s.node) s.customer ≡ inbound_at p s.customer = ap (λ (q : Plan). inbound_at q s.customer) plan in
    let supplier = relaxed.stages s.supplier there.0 in
    let customer = relaxed.stages s.customer there.1 in
    let low : floor_of n (range_of n h s.node) s.customer ≤ n.horizon = omega (arith, customer.not_below, customer.not_above) in
    let floor = floor_ge n (range_of n h s.node) s.supplier s.customer breaks.arc low in (
      cut,
      cut.holds,
      record {
        least_there = cut.holds.least_there;
        most_there = cut.holds.most_there;
        not_early = let early = cut.holds.not_early in omega (arith, early);
        not_late = omega (arith, supplier.not_late, breaks.broken, outbound, inbound, floor, customer.not_below);
      },
    )
