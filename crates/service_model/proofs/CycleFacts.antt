-- All stages are taken exactly where none reaches itself.
use Rattle.std.proofs.Common.{ℕ, zero, suc, ◌≡◌, ◌+◌, ◌<◌, ◌≤◌, eqb, List, [], ◌∷◌, ◌++◌, length, get_or, refl, sym, ◌∙◌, subst, inl, inr, ⊎_elim, arith}
use Rattle.std.specs.Prelude.{Contains, ◌⊎◌}
use Rattle.std.specs.List.{IsDistinct}
use Rattle.std.proofs.lemmas.Bool.{cases_eq}
use Rattle.std.proofs.lemmas.List.{length_push, length-take, get_or-take, get_or_default}
use Rattle.std.proofs.lemmas.Map.Steps.{length-le_from_distinct_below}
use Rattle.service_model.specs.declared.stage.SupplyArc.{SupplyArc}
use Rattle.service_model.specs.Net.{no_arc}
use Rattle.service_model.specs.Walks.{Leads, Walk, ReachesItself, NoCycle}
use Rattle.service_model.specs.Orders.{ComesNext, IsFront, IsTopological}
use Rattle.service_model.specs.Customers.{HasEnds}
use Rattle.service_model.proofs.TakenFacts.{taken_to, cases_taken, few_new, each_push, distinct_cons, none_distinct}
use Rattle.service_model.proofs.CustomerFacts.{lead_later, in_cons}

-- along a walk the place in the list rises
walk_back : (stages : ℕ) (arcs : List SupplyArc) (order : List ℕ) → ComesNext stages arcs order → (n i j k : ℕ) → Walk arcs i j n → k < length order → get_or order k 0 ≡ j
    → (p : ℕ) × (p + n ≤ k) × (get_or order p 0 ≡ i)
walk_back stages arcs order next zero i j k walk inside is = (k, omega arith, is ∙ sym walk)
walk_back stages arcs order next (suc n) i j k (m, walk, lead) inside is =
    let there = (next k inside).ready.suppliers m (subst (λ x. Leads arcs m x) (sym is) lead) in
    let short = length-take k order in
    let low : there.0 < k = omega (arith, there.1, short) in
    let at : get_or order there.0 0 ≡ m = get_or_default order there.0 0 m (omega (arith, low, inside)) ∙ sym (get_or-take k order there.0 m low) ∙ there.2 in
    let rest = walk_back stages arcs order next n i m there.0 walk (omega (arith, low, inside)) at in
    (rest.0, omega (arith, rest.1, low), rest.2)

pub no_cycle : (stages : ℕ) (arcs : List SupplyArc) (order : List ℕ) → ComesNext stages arcs order → (j : ℕ) → Contains order j → ReachesItself arcs j → ⊥
no_cycle stages arcs order next j (k, inside, is) (n, walk) =
    let at : get_or order k 0 ≡ j = get_or_default order k 0 j inside ∙ is in
    let back = walk_back stages arcs order next (suc n) j j k walk inside at in
    let low : back.0 < k = omega (arith, back.1) in
    (next k inside).ready.new
    (back.0, omega (arith, low, inside, length-take k order), get_or-take k order back.0 (get_or order k 0) low ∙ get_or_default order back.0 (get_or order k 0) 0 (omega (arith, low, inside)) ∙ back.2 ∙ sym at)

-- all suppliers are taken, or one is not
find_supplier : (arcs : List SupplyArc) (order : List ℕ) (j : ℕ) → ((s : ℕ) → Leads arcs s j → Contains order s) ⊎ ((s : ℕ) × Leads arcs s j × (Contains order s → ⊥))
find_supplier [] order j = inl (λ s l. absurd (omega (arith, l.1)))
find_supplier (a ∷ arcs) order j = ⊎_elim
    (λ rest. ⊎_elim
    (λ same. ⊎_elim
    (λ inside. inl (λ s l. first_or a arcs order j inside rest s l))
    (λ out. inr (a.supplier, (0, omega arith, refl, same), out))
    (cases_taken order a.supplier))
    (λ other. inl (λ s l. not_first a arcs order j other rest s l))
    (cases_eq a.customer j))
    (λ found. inr (found.0, lead_later a arcs found.0 j found.1, found.2))
    (find_supplier arcs order j)
  where
    first_or : (a : SupplyArc) (arcs : List SupplyArc) (order : List ℕ) (j : ℕ) → Contains order a.supplier → ((s : ℕ) → Leads arcs s j → Contains order s) → (s : ℕ) → Leads (a ∷ arcs) s j → Contains order s
    first_or a arcs order j inside rest s (zero, low, is, to) = subst (λ x. Contains order x) is inside
    first_or a arcs order j inside rest s (suc k, low, is, to) = rest s (k, omega (arith, low), is, to)

    not_first : (a : SupplyArc) (arcs : List SupplyArc) (order : List ℕ) (j : ℕ) → (a.customer ≡ j → ⊥) → ((s : ℕ) → Leads arcs s j → Contains order s) → (s : ℕ) → Leads (a ∷ arcs) s j → Contains order s
    not_first a arcs order j other rest s (zero, low, is, to) = absurd (other to)
    not_first a arcs order j other rest s (suc k, low, is, to) = rest s (k, omega (arith, low), is, to)

pub walk_first : (arcs : List SupplyArc) (n a b c : ℕ) → Leads arcs a b → Walk arcs b c n → Walk arcs a c (suc n)
walk_first arcs zero a b c lead walk = (a, refl, subst (λ x. Leads arcs a x) walk lead)
walk_first arcs (suc n) a b c lead (m, walk, last) = (m, walk_first arcs n a b m lead walk, last)

-- stages that are not taken, each of which the first reaches
record Trail (stages : ℕ) (arcs : List SupplyArc) (order : List ℕ) (x : ℕ) (ts : List ℕ) : Type 0 where
  stage : x < stages
  new : Contains order x → ⊥
  low : (q : ℕ) → Contains ts q → q < stages
  apart : IsDistinct eqb ts
  reach : (q : ℕ) → Contains ts q → (n : ℕ) × Walk arcs x q n

climb : (stages : ℕ) (arcs : List SupplyArc) (order : List ℕ) → HasEnds stages arcs → IsFront stages arcs order → (fuel x : ℕ) (ts : List ℕ) → stages < length ts + fuel
    → Trail stages arcs order x ts → (j : ℕ) × (j < stages) × ReachesItself arcs j
climb stages arcs order ends front zero x ts much trail =
    absurd (omega (arith, much, length-le_from_distinct_below ts stages trail.apart (λ q is. trail.low q (taken_to ts q is))))
climb stages arcs order ends front (suc fuel) x ts much trail = ⊎_elim
    (λ all. absurd (front.rest x (record { stage = trail.stage; new = trail.new; suppliers = all })))
    (λ found.
    let s = found.0 in
    let low : found.0 < stages = subst (λ y. y < stages) found.1.2 (ends found.1.0 no_arc found.1.1).0 in
    ⊎_elim
    (λ met. let w = trail.reach s met in (s, low, (w.0, walk_first arcs w.0 s x s found.1 w.1)))
    (λ fresh. climb stages arcs order ends front fuel s (s ∷ ts) (omega (arith, much)) (record {
      stage = low;
      new = found.2;
      low = λ q h. ⊎_elim (λ same. subst (λ y. y < stages) same low) (trail.low q) (in_cons s ts q h);
      apart = distinct_cons ts s trail.apart fresh;
      reach = λ q h. ⊎_elim (λ same. (0, same)) (λ old. let w = trail.reach q old in (suc w.0, walk_first arcs w.0 s x q found.1 w.1)) (in_cons s ts q h);
    }))
    (cases_taken ts s))
    (find_supplier arcs order x)

-- where no stage reaches itself, all are taken
pub all_taken : (stages : ℕ) (arcs : List SupplyArc) (order : List ℕ) → HasEnds stages arcs → IsFront stages arcs order → NoCycle stages arcs → IsTopological stages arcs order
all_taken stages arcs order ends front acyclic = record {
  next = front.next;
  each = λ j within. ⊎_elim (λ inside. inside)
      (λ out.
      let found = climb stages arcs order ends front (suc stages) j [] (omega arith) (record {
        stage = within;
        new = out;
        low = λ q h. absurd (omega (arith, h.1));
        apart = none_distinct;
        reach = λ q h. absurd (omega (arith, h.1));
      }) in
      absurd (acyclic found.0 found.1 found.2))
      (cases_taken order j);
}

-- where all are taken, no stage reaches itself
pub full_order : (stages : ℕ) (arcs : List SupplyArc) (order : List ℕ) → ComesNext stages arcs order → length order ≡ stages → NoCycle stages arcs
full_order stages arcs order next long j within cycle = ⊎_elim
    (λ inside. no_cycle stages arcs order next j inside cycle)
    (λ out.
    let low = each_push (λ xs x. x < stages) order j (λ k inside. (next k inside).ready.stage) within in
    let new = each_push (λ xs x. Contains xs x → ⊥) order j (λ k inside. (next k inside).ready.new) out in
    absurd (omega (arith, few_new (order ++ j ∷ []) stages low new, length_push order j, long)))
    (cases_taken order j)
