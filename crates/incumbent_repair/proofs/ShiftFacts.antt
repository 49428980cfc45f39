-- A shift is made stage by stage, suppliers first.
use Rattle.std.proofs.Common.{◌≡◌, ◌≢◌, ℕ, suc, ◌<◌, ◌≤◌, min, List, length, get_or, set, sym, ap, ◌∙◌, subst, ⊎_elim, arith}
use Rattle.std.specs.List.{AllByRecursion}
use Rattle.std.proofs.lemmas.Bool.{cases_eq}
use Rattle.std.proofs.lemmas.List.{get_or-set_same, get_or-set_other, length-set, get_or_default}
use Rattle.service_model.specs.declared.plan.Plan.{Plan}
use Rattle.service_model.specs.Net.{Net, stage_at, arc_in}
use Rattle.service_model.specs.Plans.{HasTimes, inbound_at}
use Rattle.service_model.specs.Networks.{IsNetwork}
use Rattle.service_model.specs.Orders.{IsTopological}
use Rattle.service_model.specs.Repairs.{Shift, IsRepairable, IsRepair, RepairsStage, latest_arrival}
use Rattle.service_model.proofs.OrderLaws.{stage_once, place_stage, supplier_first}
use Rattle.incumbent_repair.specs.Orders.{HasSuppliersFirst}
use Rattle.incumbent_repair.specs.Inputs.{arcs_to}
use Rattle.incumbent_repair.specs.Shifts.{KeepsMost, quoted_after, with_shifted}
use Rattle.incumbent_repair.proofs.InputFacts.{input_is_arrival, inputs_agree, each_to}

-- the order that takes the lowest ready stage again and again has suppliers first
pub suppliers_first : (n : Net) (order : List ℕ) → IsTopological (length n.stages) n.arcs order → HasSuppliersFirst n order
suppliers_first n order sorted = record {
  stages = place_stage (length n.stages) n.arcs order sorted;
  each = sorted.each;
  once = stage_once (length n.stages) n.arcs order sorted;
  first = supplier_first (length n.stages) n.arcs order sorted;
}

-- each stage has a place
place_of : (n : Net) (order : List ℕ) → HasSuppliersFirst n order → (j : ℕ) → j < length n.stages → (p : ℕ) × (p < length order) × (get_or order p 0 ≡ j)
place_of n order sorted j within =
    let there = sorted.each j within in
    (there.0, there.1, get_or_default order there.0 0 j there.1 ∙ there.2)

-- the first k stages of the order are shifted
pub record AreShifted (n : Net) (q p : Plan) (order : List ℕ) (k : ℕ) : Type 0 where
  pub times : HasTimes n p
  pub most : KeepsMost n p
  pub done : (m : ℕ) → m < k → RepairsStage Shift n q p (get_or order m 0)

-- the stage at place k supplies none at its place or before
not_supplier : (n : Net) (order : List ℕ) (k m a : ℕ) → IsNetwork n → HasSuppliersFirst n order → k < length order → m ≤ k
    → a < length n.arcs → (arc_in n.arcs a).customer ≡ get_or order m 0 → (arc_in n.arcs a).supplier ≢ get_or order k 0
not_supplier n order k m a valid sorted inside early within to same =
    let there = place_of n order sorted (arc_in n.arcs a).supplier (valid.arcs a within).supplier in
    let first : there.0 < m =
    sorted.first there.0 m there.1 (omega arith) (a, within, sym there.2, to) in
    omega (arith, first, early, sorted.once there.0 k there.1 inside (there.2 ∙ same))

-- its shift changes no arrival there
arrival_stays : (n : Net) (order : List ℕ) (k m : ℕ) (p : Plan) (inbound : List ℕ) (time x : ℕ) → IsNetwork n → HasSuppliersFirst n order
    → k < length order → m ≤ k → (let p' : Plan = record { inbound = inbound; outbound = set p.outbound (get_or order k 0) x } in
    latest_arrival n.arcs p' (get_or order m 0) time ≡ latest_arrival n.arcs p (get_or order m 0) time)
arrival_stays n order k m p inbound time x valid sorted inside early =
    let j = get_or order k 0 in
    let i = get_or order m 0 in
    let p' : Plan = record { inbound = inbound; outbound = set p.outbound (get_or order k 0) x } in
    let same : AllByRecursion (λ a. get_or (set p.outbound (get_or order k 0) x) a.supplier 0 ≡ get_or p.outbound a.supplier 0) (arcs_to n.arcs (get_or order m 0)) =
    each_to (λ a. get_or (set p.outbound (get_or order k 0) x) a.supplier 0 ≡ get_or p.outbound a.supplier 0) n.arcs i
    (λ a within to. get_or-set_other p.outbound j _ x 0 (not_supplier n order k m a valid sorted inside early within to)) in
    sym (input_is_arrival n.arcs p' i time) ∙ inputs_agree (arcs_to n.arcs i) p.outbound (set p.outbound j x) time same ∙ input_is_arrival n.arcs p i time

-- nothing is shifted
pub shifted_none : (n : Net) (q : Plan) (order : List ℕ) → IsRepairable n q → AreShifted n q q order 0
shifted_none n q order is = record { times = is.times; most = λ j within. (is.stages j within).1; done = λ m less. absurd (omega arith) }

low_more : (most x : ℕ) (times : List ℕ) (j i bound : ℕ) → j < length times → (i ≡ j → min most x ≤ bound) → get_or times i 0 ≤ bound
    → get_or (set times j (min most x)) i 0 ≤ bound
low_more most x times j i bound there here other = ⊎_elim
    (λ same. omega (arith, here same, ap (λ k. get_or (set times j (min most x)) k 0) same, get_or-set_same times j (min most x) 0 there))
    (λ differ. omega (arith, other, get_or-set_other times j i (min most x) 0 differ))
    (cases_eq i j)

-- the next stage is shifted
pub shifted_more : (n : Net) (q p : Plan) (order : List ℕ) (k : ℕ) → IsNetwork n → HasSuppliersFirst n order → k < length order
    → AreShifted n q p order k → AreShifted n q (with_shifted n q p (get_or order k 0)) order (suc k)
shifted_more n q p order k valid sorted inside known =
    let j = get_or order k 0 in
    let p' = with_shifted n q p (get_or order k 0) in
    let late = latest_arrival n.arcs p (get_or order k 0) (inbound_at q (get_or order k 0)) in
    let more = quoted_after n q (get_or order k 0) late in
    let stage : get_or order k 0 < length n.stages = sorted.stages k inside in
    let there : get_or order k 0 < length p.inbound = omega (arith, stage, known.times.inbound) in
    let out : get_or order k 0 < length p.outbound = omega (arith, stage, known.times.outbound) in
    record {
      times = record { inbound = length-set p.inbound j late ∙ known.times.inbound; outbound = length-set p.outbound j more ∙ known.times.outbound };
      most = λ i within. low_more _ _ p.outbound j i (stage_at n i).most out (λ same. omega (arith, ap (λ x. (stage_at n x).most) same)) (known.most i within);
      done = λ m less. ⊎_elim
          (λ same. subst (λ x. RepairsStage Shift n q p' (get_or order x 0)) (sym same)
          (let wait : get_or (set p.inbound j late) j 0 ≡ late = get_or-set_same p.inbound j late 0 there in (
            wait ∙ sym (arrival_stays n order k k p p'.inbound (inbound_at q j) more valid sorted inside (omega arith)),
            get_or-set_same p.outbound j more 0 out ∙ ap (quoted_after n q j) (sym wait),
          )))
          (λ differ.
          let i = get_or order m 0 in
          let early : m < k = omega arith in
          let other : get_or order m 0 ≢ get_or order k 0 = λ same. differ (sorted.once m k (omega arith) inside same) in
          let wait : get_or (set p.inbound j late) i 0 ≡ get_or p.inbound i 0 = get_or-set_other p.inbound j i late 0 other in (
            wait ∙ (known.done m early).0 ∙ sym (arrival_stays n order k m p p'.inbound (inbound_at q i) more valid sorted inside (omega arith)),
            get_or-set_other p.outbound j i more 0 other ∙ (known.done m early).1 ∙ ap (quoted_after n q i) (sym wait),
          ))
          (cases_eq m k);
    }

-- all stages are shifted
pub shifted_all : (n : Net) (q p : Plan) (order : List ℕ) (k : ℕ) → HasSuppliersFirst n order → k ≡ length order
    → AreShifted n q p order k → IsRepair Shift n q p
shifted_all n q p order k sorted all known = record {
  times = known.times;
  stages = λ j within.
      let there = place_of n order sorted j within in
      subst (λ x. RepairsStage Shift n q p x) there.2 (known.done there.0 (omega (arith, all, there.1)));
}
