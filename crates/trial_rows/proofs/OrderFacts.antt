-- Arcs that all go up in an order: no stage reaches itself, and the lowest ready stage can be taken again and again until all are.
use Rattle.std.proofs.Common.{ℕ, zero, suc, ◌≡◌, ◌≢◌, ◌+◌, ◌<◌, ◌≤◌, ◌⊎◌, List, [], ◌∷◌, ◌++◌, length, refl, sym, subst, inl, inr, ⊎_elim, arith}
use Rattle.std.specs.Prelude.{Contains}
use Rattle.std.proofs.lemmas.Bool.{cases_lt, cases_eq}
use Rattle.std.proofs.lemmas.List.{length_push}
use Rattle.service_model.specs.declared.stage.SupplyArc.{SupplyArc}
use Rattle.service_model.specs.Net.{no_arc}
use Rattle.service_model.specs.Walks.{Leads, Walk, NoCycle}
use Rattle.service_model.specs.Orders.{IsReady, IsLowestReady, ComesNext, IsTopological}
use Rattle.service_model.specs.Customers.{HasEnds}
use Rattle.trial_rows.proofs.TakenFacts.{cases_taken, few_new, each_push}

-- an arc among more arcs
lead_later : (a : SupplyArc) (arcs : List SupplyArc) (s j : ℕ) → Leads arcs s j → Leads (a ∷ arcs) s j
lead_later a arcs s j (k, low, is, to) = (suc k, omega (arith, low), is, to)

-- all suppliers are taken, or one is not
find_supplier : (arcs : List SupplyArc) (order : List ℕ) (j : ℕ) → ((s : ℕ) → Leads arcs s j → Contains order s) ⊎ ((s : ℕ) × Leads arcs s j × (Contains order s → ⊥))
find_supplier [] order j = inl (λ s l. absurd (omega (arith, l.1)))
find_supplier (a ∷ arcs) order j = ⊎_elim
    (λ rest. ⊎_elim
    (λ same. ⊎_elim
    (λ inside. inl (λ s l. first_or a arcs order j inside rest s l))
    (λ out. inr (a.supplier, (0, omega arith, refl, same), out))
    (cases_taken order a.supplier))
    (λ other. inl (λ s l. not_first a arcs order j other rest s l))
    (cases_eq a.customer j))
    (λ found. inr (found.0, lead_later a arcs found.0 j found.1, found.2))
    (find_supplier arcs order j)
  where
    first_or : (a : SupplyArc) (arcs : List SupplyArc) (order : List ℕ) (j : ℕ) → Contains order a.supplier → ((s : ℕ) → Leads arcs s j → Contains order s) → (s : ℕ) → Leads (a ∷ arcs) s j → Contains order s
    first_or a arcs order j inside rest s (zero, low, is, to) = subst (λ x. Contains order x) is inside
    first_or a arcs order j inside rest s (suc k, low, is, to) = rest s (k, omega (arith, low), is, to)

    not_first : (a : SupplyArc) (arcs : List SupplyArc) (order : List ℕ) (j : ℕ) → (a.customer ≡ j → ⊥) → ((s : ℕ) → Leads arcs s j → Contains order s) → (s : ℕ) → Leads (a ∷ arcs) s j → Contains order s
    not_first a arcs order j other rest s (zero, low, is, to) = absurd (other to)
    not_first a arcs order j other rest s (suc k, low, is, to) = rest s (k, omega (arith, low), is, to)

-- an order: nothing comes before itself, and of two different numbers one comes before the other
pub record IsOrder (Before : ℕ → ℕ → Type 0) : Type 0 where
  pub never : (i : ℕ) → Before i i → ⊥
  pub more : (i j k : ℕ) → Before i j → Before j k → Before i k
  pub one : (i j : ℕ) → i ≢ j → Before i j ⊎ Before j i

module _ (stages : ℕ) (arcs : List SupplyArc) (Before : ℕ → ℕ → Type 0) (order_is : IsOrder Before) (rise : (i j : ℕ) → Leads arcs i j → Before i j) where
  walk_rises : (n i j : ℕ) → Walk arcs i j (suc n) → Before i j
  walk_rises zero i j (m, same, lead) = rise i j (subst (λ x. Leads arcs x j) (sym same) lead)
  walk_rises (suc n) i j (m, walk, lead) = order_is.more i m j (walk_rises n i m walk) (rise m j lead)

  pub acyclic : NoCycle stages arcs
  acyclic j within (n, walk) = order_is.never j (walk_rises n j j walk)

  -- a stage below m that is not taken, and is the first in the order of those that are not
  abbrev IsFirstNew : List ℕ → ℕ → ℕ → Type 0
  IsFirstNew taken m j = (j < m) × (Contains taken j → ⊥) × ((k : ℕ) → k < m → (Contains taken k → ⊥) → Before k j → ⊥)

  -- what holds below m, and at m
  up_to : (P : ℕ → Type 0) (m k : ℕ) → ((i : ℕ) → i < m → P i) → P m → k < suc m → P k
  up_to P m k below here low = ⊎_elim
      (λ less. below k less)
      (λ past. let same : m ≡ k = omega arith in subst P same here)
      (cases_lt k m)

  first_new : (taken : List ℕ) (m : ℕ) → ((k : ℕ) → k < m → Contains taken k) ⊎ ((j : ℕ) × IsFirstNew taken m j)
  first_new taken zero = inl (λ k low. absurd (omega arith))
  first_new taken (suc m) = ⊎_elim
      (λ all. ⊎_elim
      (λ inside. inl (λ k low. up_to (λ i. Contains taken i) m k all inside low))
      (λ out. inr (m, (omega arith, out, λ k low. up_to (λ i. (Contains taken i → ⊥) → Before i m → ⊥) m k (λ i less new before. new (all i less)) (λ new before. order_is.never m before) low)))
      (cases_taken taken m))
      (λ found.
      let j = found.0 in
      let least = found.1.2 in
      ⊎_elim
      (λ inside. inr (j, (omega (arith, found.1.0), found.1.1, λ k low. up_to (λ i. (Contains taken i → ⊥) → Before i j → ⊥) m k least (λ new before. new inside) low)))
      (λ out. ⊎_elim
      (λ earlier. inr (j, (omega (arith, found.1.0), found.1.1, λ k low. up_to (λ i. (Contains taken i → ⊥) → Before i j → ⊥) m k least (λ new before. order_is.never m (order_is.more m j m before earlier)) low)))
      (λ later. inr (m, (omega arith, out, λ k low. up_to (λ i. (Contains taken i → ⊥) → Before i m → ⊥) m k (λ i less new before. least i less new (order_is.more i m j before later)) (λ new before. order_is.never m before) low)))
      (order_is.one j m (λ same. omega (arith, same, found.1.0))))
      (cases_taken taken m))
      (first_new taken m)

  cases_ready : (taken : List ℕ) (j : ℕ) → IsReady stages arcs taken j ⊎ (IsReady stages arcs taken j → ⊥)
  cases_ready taken j = ⊎_elim
      (λ within. ⊎_elim
      (λ inside. inr (λ ready. ready.new inside))
      (λ out. ⊎_elim
      (λ all. inl (record { stage = within; new = out; suppliers = all }))
      (λ found. inr (λ ready. found.2 (ready.suppliers found.0 found.1)))
      (find_supplier arcs taken j))
      (cases_taken taken j))
      (λ past. inr (λ ready. omega (arith, past, ready.stage)))
      (cases_lt j stages)

  lowest_ready : (taken : List ℕ) (m : ℕ) → ((k : ℕ) → k < m → IsReady stages arcs taken k → ⊥) ⊎ ((j : ℕ) × (j < m) × IsReady stages arcs taken j × ((k : ℕ) → k < m → IsReady stages arcs taken k → j ≤ k))
  lowest_ready taken zero = inl (λ k low. absurd (omega arith))
  lowest_ready taken (suc m) = ⊎_elim
      (λ none. ⊎_elim
      (λ ready. inr (m, omega arith, ready, λ k low. up_to (λ i. IsReady stages arcs taken i → m ≤ i) m k (λ i less is. absurd (none i less is)) (λ is. omega arith) low))
      (λ not. inl (λ k low. up_to (λ i. IsReady stages arcs taken i → ⊥) m k none not low))
      (cases_ready taken m))
      (λ found. inr (found.0, omega (arith, found.1), found.2, λ k low is. ⊎_elim (λ less. found.3 k less is) (λ past. omega (arith, past, found.1)) (cases_lt k m)))
      (lowest_ready taken m)

  -- where a stage is not taken, one comes next
  comes_next : HasEnds stages arcs → (taken : List ℕ) (j : ℕ) → IsFirstNew taken stages j → (i : ℕ) × IsLowestReady stages arcs taken i
  comes_next ends taken j first =
      let ready : IsReady stages arcs taken j = record {
        stage = first.0;
        new = first.1;
        suppliers = λ i lead. ⊎_elim (λ inside. inside)
            (λ out.
            let low : i < stages = subst (λ x. x < stages) lead.2 (ends lead.0 no_arc lead.1).0 in
            absurd (first.2 i low out (rise i j lead)))
            (cases_taken taken i);
      } in
      ⊎_elim
      (λ none. absurd (none j first.0 ready))
      (λ found. (found.0, record { ready = found.2; lowest = λ k is. found.3 k is.stage is }))
      (lowest_ready taken stages)

  not_all : (taken : List ℕ) (j : ℕ) → ComesNext stages arcs taken → j < stages → (Contains taken j → ⊥) → length taken < stages
  not_all taken j next within out =
      let low = each_push (λ xs x. x < stages) taken j (λ k inside. (next k inside).ready.stage) within in
      let new = each_push (λ xs x. Contains xs x → ⊥) taken j (λ k inside. (next k inside).ready.new) out in
      omega (arith, few_new (taken ++ j ∷ []) stages low new, length_push taken j)

  taken_on : HasEnds stages arcs → (left : ℕ) (taken : List ℕ) → ComesNext stages arcs taken → stages ≤ left + length taken → (order : List ℕ) × IsTopological stages arcs order
  taken_on ends zero taken next enough = ⊎_elim
      (λ all. (taken, record { next = next; each = all }))
      (λ found. absurd (omega (arith, not_all taken found.0 next found.1.0 found.1.1, enough)))
      (first_new taken stages)
  taken_on ends (suc left) taken next enough = ⊎_elim
      (λ all. (taken, record { next = next; each = all }))
      (λ found.
      let one = comes_next ends taken found.0 found.1 in
      taken_on ends left (taken ++ one.0 ∷ []) (each_push (IsLowestReady stages arcs) taken one.0 next one.1) (omega (arith, enough, length_push taken one.0)))
      (first_new taken stages)

  -- there is an order that takes again and again the lowest ready stage
  pub some_order : HasEnds stages arcs → (order : List ℕ) × IsTopological stages arcs order
  some_order ends = taken_on ends stages [] (λ k inside. absurd (omega arith)) (omega arith)
