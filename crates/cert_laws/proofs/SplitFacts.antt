-- A split on which no rule fails cuts a leaf.
use Rattle.std.proofs.Common.{◌≡◌, ℕ, ◌<◌, ◌≤◌, List, [], ◌∷◌, ◌++◌, length, take, sym, ap, subst, ⊎_elim, arith}
use Rattle.std.specs.Prelude.{unwrap_or}
use Rattle.std.proofs.lemmas.Bool.{cases_lt}
use Rattle.std.proofs.lemmas.List.{length_push, take-append-le, take_at, get_or_append_left, get_or_push}
use Rattle.service_model.specs.declared.stage.SupplyArc.{SupplyArc}
use Rattle.service_model.specs.declared.plan.Plan.{Plan}
use Rattle.service_model.specs.declared.cert.Split.{Split}
use Rattle.service_model.specs.Net.{Net}
use Rattle.service_model.specs.Plans.{inbound_at, outbound_at}
use Rattle.service_model.specs.Customers.{HasEnds}
use Rattle.service_model.specs.Ranges.{floor_of}
use Rattle.service_model.specs.Tables.{Supplies}
use Rattle.service_model.specs.CertRanges.{Cut, no_cut, cut_at, IsCut, AreCuts}
use Rattle.service_model.specs.Held.{Held, no_plan, relaxed_at, cut_by, cuts_of, range_of}
use Rattle.service_model.specs.Earned.{IsNext, IsRelaxedAt, BreaksArc}
use Rattle.cert_laws.proofs.CutFacts.{ranges_long}
use Rattle.cert_laws.proofs.FloorFacts.{floor_ge}

pub ends_there : (n : Net) (i j : ℕ) → HasEnds (length n.stages) n.arcs → Supplies n.arcs i j → (i < length n.stages) × (j < length n.stages)
ends_there n i j ends (k, b, within, is, (from, to)) =
    let there = ends k b within in
    let supplier = ap (λ (a : SupplyArc). a.supplier) is in
    let customer = ap (λ (a : SupplyArc). a.customer) is in
    (omega (arith, there.0, supplier, from), omega (arith, there.1, customer, to))

-- what a split cuts is a leaf, whose interval of the stage holds the time
pub is_cut : (n : Net) (h : Held) (s : Split) → HasEnds (length n.stages) n.arcs → AreCuts n (cuts_of n h) → IsNext n h s.node → IsRelaxedAt n h s.node
    → BreaksArc n h s → IsCut n (cuts_of n h) (cut_by n h.nodes s)
is_cut n h s ends cuts next relaxed breaks =
    let p = relaxed.plan in
    let plan : relaxed_at h.nodes s.node ≡ p = ap (λ o. unwrap_or o no_plan) relaxed.there in
    let inbound : inbound_at (relaxed_at h.nodes s.node) s.customer ≡ inbound_at p s.customer = ap (λ (q : Plan). inbound_at q s.customer) plan in
    let outbound : outbound_at (relaxed_at h.nodes s.node) s.supplier ≡ outbound_at p s.supplier = ap (λ (q : Plan). outbound_at q s.supplier) plan in
    let there = ends_there n s.supplier s.customer ends breaks.arc in
    let long = ranges_long n (cuts_of n h) cuts s.node next.leaf.there in
    let supplier = relaxed.stages s.supplier there.0 in
    let customer = relaxed.stages s.customer there.1 in
    let low : floor_of n (range_of n h s.node) s.customer ≤ n.horizon = omega (arith, customer.not_below, customer.not_above) in
    let floor = floor_ge n (range_of n h s.node) s.supplier s.customer breaks.arc low in
    record {
      leaf = next.leaf;
      holds = record {
        least_there = omega (arith, there.0, long.0);
        most_there = omega (arith, there.0, long.1);
        not_early = omega (arith, floor, customer.not_below, inbound);
        not_late = omega (arith, supplier.not_late, breaks.broken, inbound, outbound);
      };
    }

-- one cut more
pub cuts_more : (n : Net) (cuts : List Cut) (c : Cut) → AreCuts n cuts → IsCut n cuts c → AreCuts n (cuts ++ c ∷ [])
cuts_more n cuts c are new i within = ⊎_elim
    (λ old.
    subst (λ cs. IsCut n cs (cut_at (cuts ++ c ∷ []) i)) (sym (take-append-le i cuts (c ∷ []) (omega arith)))
    (subst (IsCut n (take i cuts)) (sym (get_or_append_left cuts (c ∷ []) no_cut i old)) (are i old)))
    (λ at.
    let last : length cuts ≡ i = omega (arith, length_push cuts c) in
    subst (λ cs. IsCut n cs (cut_at (cuts ++ c ∷ []) i)) (sym (take_at cuts (c ∷ []) i last))
    (subst (IsCut n cuts) (sym (get_or_push cuts c no_cut i last)) new))
    (cases_lt i (length cuts))
