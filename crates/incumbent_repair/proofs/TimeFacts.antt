-- Arrivals and needs by one more arc.
use Rattle.std.proofs.Common.{◌≡◌, ℕ, zero, suc, ◌+◌, ◌-◌, ◌<◌, Bool, true, false, cond, List, [], ◌∷◌, length, get_or, set, take, refl, sym, ap, ◌∙◌, arith}
use Rattle.std.specs.Prelude.{max, min, ◌==◌}
use Rattle.std.proofs.lemmas.List.{length-set}
use Rattle.service_model.specs.declared.stage.SupplyArc.{SupplyArc}
use Rattle.service_model.specs.declared.plan.Plan.{Plan}
use Rattle.service_model.specs.Net.{Net, net_of, arc_in}
use Rattle.service_model.specs.Plans.{inbound_at, outbound_at}
use Rattle.service_model.specs.Repairs.{arrival_by, latest_arrival, need_by, earliest_need}
use Rattle.incumbent_repair.specs.Times.{AreArrivals, AreNeeds}
use Rattle.incumbent_repair.proofs.StepFacts.{set_step}

-- two steps that each apply or not may come in either order, where both that apply may
swapped : (step : ℕ → ℕ → ℕ) → ((x y z : ℕ) → step x (step y z) ≡ step y (step x z)) → (a b : Bool) (x y z : ℕ)
    → cond a (step x (cond b (step y z) z)) (cond b (step y z) z) ≡ cond b (step y (cond a (step x z) z)) (cond a (step x z) z)
swapped step law true true x y z = law x y z
swapped step law true false x y z = refl
swapped step law false true x y z = refl
swapped step law false false x y z = refl

pub max-max : (x y z : ℕ) → max x (max y z) ≡ max y (max x z)
max-max x y z = omega arith

min-min : (x y z : ℕ) → min x (min y z) ≡ min y (min x z)
min-min x y z = omega arith

arrival_more : (arcs : List SupplyArc) (q : Plan) (j time k : ℕ) → k < length arcs
    → latest_arrival (take (suc k) arcs) q j time ≡ arrival_by (arc_in arcs k) q j (latest_arrival (take k arcs) q j time)
arrival_more [] q j time k within = absurd (omega arith)
arrival_more (a ∷ arcs) q j time zero within = refl
arrival_more (a ∷ arcs) q j time (suc k) within =
    let b = arc_in arcs k in
    ap (arrival_by a q j) (arrival_more arcs q j time k (omega arith))
    ∙ swapped max max-max (a.customer == j) (b.customer == j) (outbound_at q a.supplier + a.transit) (outbound_at q b.supplier + b.transit) (latest_arrival (take k arcs) q j time)

need_more : (arcs : List SupplyArc) (q : Plan) (j time k : ℕ) → k < length arcs
    → earliest_need (take (suc k) arcs) q j time ≡ need_by (arc_in arcs k) q j (earliest_need (take k arcs) q j time)
need_more [] q j time k within = absurd (omega arith)
need_more (a ∷ arcs) q j time zero within = refl
need_more (a ∷ arcs) q j time (suc k) within =
    let b = arc_in arcs k in
    ap (need_by a q j) (need_more arcs q j time k (omega arith))
    ∙ swapped min min-min (a.supplier == j) (b.supplier == j) (inbound_at q a.customer - a.transit) (inbound_at q b.customer - b.transit) (earliest_need (take k arcs) q j time)

-- one more arc raises its customer's time
pub arrivals_more : (n : Net) (q : Plan) (k : ℕ) (times times' : List ℕ) → k < length n.arcs → (arc_in n.arcs k).customer < length times
    → AreArrivals (net_of n.horizon n.stages (take k n.arcs)) q times
    → times' ≡ set times (arc_in n.arcs k).customer (max (outbound_at q (arc_in n.arcs k).supplier + (arc_in n.arcs k).transit) (get_or times (arc_in n.arcs k).customer 0))
    → AreArrivals (net_of n.horizon n.stages (take (suc k) n.arcs)) q times'
arrivals_more n q k times times' within there known is = record {
  long = ap length is ∙ length-set times _ _ ∙ known.long;
  each = λ j stage.
      let a = arc_in n.arcs k in
      ap (λ (xs : List ℕ). get_or xs j 0) is
      ∙ set_step times 0 a.customer j (max (outbound_at q a.supplier + a.transit)) (a.customer == j) refl there
      ∙ ap (arrival_by a q j) (known.each j stage)
      ∙ sym (arrival_more n.arcs q j (inbound_at q j) k within);
}

-- one more arc lowers its supplier's time
pub needs_more : (n : Net) (q : Plan) (k : ℕ) (times times' : List ℕ) → k < length n.arcs → (arc_in n.arcs k).supplier < length times
    → AreNeeds (net_of n.horizon n.stages (take k n.arcs)) q times
    → times' ≡ set times (arc_in n.arcs k).supplier (min (inbound_at q (arc_in n.arcs k).customer - (arc_in n.arcs k).transit) (get_or times (arc_in n.arcs k).supplier 0))
    → AreNeeds (net_of n.horizon n.stages (take (suc k) n.arcs)) q times'
needs_more n q k times times' within there known is = record {
  long = ap length is ∙ length-set times _ _ ∙ known.long;
  each = λ j stage.
      let a = arc_in n.arcs k in
      ap (λ (xs : List ℕ). get_or xs j 0) is
      ∙ set_step times 0 a.supplier j (min (inbound_at q a.customer - a.transit)) (a.supplier == j) refl there
      ∙ ap (need_by a q j) (known.each j stage)
      ∙ sym (need_more n.arcs q j (outbound_at q j) k within);
}
