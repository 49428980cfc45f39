-- Taking the lowest ready stage, step by step.
use Rattle.std.proofs.Common.{ℕ, ◌≡◌, ◌<◌, ◌≤◌, ◌==◌, cond, List, [], ◌∷◌, ◌++◌, length, get_or, refl, sym, ap, ◌∙◌, subst, ⊎_elim, arith}
use Rattle.std.specs.Prelude.{All, Contains, ◌⊎◌, count_by}
use Rattle.std.specs.List.{sum_by}
use Rattle.std.proofs.lemmas.Bool.{cases_lt, ne_eqb}
use Rattle.std.proofs.lemmas.List.{get_or_default, get_or-take, length-take}
use Rattle.std.proofs.lemmas.List.Elements.{Contains-push, Contains-append_left, Contains-push_cases}
use Rattle.std.proofs.lemmas.List.Sums.{sum_by-le}
use Rattle.service_model.specs.declared.stage.SupplyArc.{SupplyArc}
use Rattle.service_model.specs.Net.{no_arc}
use Rattle.service_model.specs.Walks.{Leads}
use Rattle.service_model.specs.Orders.{IsReady, IsLowestReady, ComesNext, IsFront}
use Rattle.service_model.specs.Customers.{HasEnds, customers_in}
use Rattle.service_model.specs.Waits.{missing, Released}
use Rattle.service_model.proofs.TakenFacts.{cases_taken, few_new, each_push}
use Rattle.service_model.proofs.CustomerFacts.{in_cons, in_tail, customers_lead, leads_customers, customers_there}
use Rattle.service_model.proofs.WaitFacts.{here, missing_push, missing_none, none_missing}

-- what the loop keeps: the stages taken so far, those that are ready, and how many suppliers each waits for
pub record FrontSoFar (stages : ℕ) (arcs : List SupplyArc) (order ready waits : List ℕ) : Type 0 where
  pub next : ComesNext stages arcs order
  pub waits_long : length waits ≡ stages
  pub waits_are : (j : ℕ) → j < stages → get_or waits j 0 ≡ missing arcs order j
  pub ready_are : (j : ℕ) → Contains ready j → IsReady stages arcs order j
  pub all_ready : (j : ℕ) → IsReady stages arcs order j → Contains ready j

pub few_ready : (stages : ℕ) (arcs : List SupplyArc) (order : List ℕ) → ComesNext stages arcs order → length order ≤ stages
few_ready stages arcs order next = few_new order stages (λ k inside. (next k inside).ready.stage) (λ k inside. (next k inside).ready.new)

-- a taken stage's suppliers are taken
pub supplier_taken : (stages : ℕ) (arcs : List SupplyArc) (order : List ℕ) (i j : ℕ) → ComesNext stages arcs order → Contains order j → Leads arcs i j → Contains order i
supplier_taken stages arcs order i j next at l =
    let k = at.0 in
    let is : get_or order at.0 0 ≡ j = get_or_default order at.0 0 j at.1 ∙ at.2 in
    let there = (next at.0 at.1).ready.suppliers i (subst (λ x. Leads arcs i x) (sym is) l) in
    let short = length-take at.0 order in
    (there.0, omega (arith, there.1, short, at.1), sym (get_or-take at.0 order there.0 i (omega (arith, there.1, short))) ∙ there.2)

pub front_begun : (stages : ℕ) (arcs : List SupplyArc) (ready waits : List ℕ) → length waits ≡ stages → ((j : ℕ) → j < stages → get_or waits j 0 ≡ missing arcs [] j)
    → ((j : ℕ) → Contains ready j → (j < length waits) × (get_or waits j 0 ≡ 0)) → ((j : ℕ) → j < length waits → get_or waits j 0 ≡ 0 → Contains ready j)
    → FrontSoFar stages arcs [] ready waits
front_begun stages arcs ready waits long counts only all = record {
  next = λ k inside. absurd (omega arith);
  waits_long = long;
  waits_are = counts;
  ready_are = λ j is.
      let p = only j is in
      record {
        stage = omega (arith, p.0, long);
        new = λ inside. omega (arith, inside.1);
        suppliers = λ i l. missing_none arcs [] j i (sym (counts j (omega (arith, p.0, long))) ∙ p.1) l;
      };
  all_ready = λ j is. all j (omega (arith, is.stage, long)) (counts j is.stage ∙ none_missing arcs [] j is.suppliers);
}

pub front_done : (stages : ℕ) (arcs : List SupplyArc) (order ready waits : List ℕ) → FrontSoFar stages arcs order ready waits → ready ≡ [] → IsFront stages arcs order
front_done stages arcs order ready waits front none = record {
  next = front.next;
  rest = λ j is. let at : Contains [] j = subst (λ xs. Contains xs j) none (front.all_ready j is) in omega (arith, at.1);
}

pub front_more : (stages : ℕ) (arcs : List SupplyArc) (order ready old ready' waits waits' : List ℕ) (i : ℕ) → HasEnds stages arcs → FrontSoFar stages arcs order old waits → old ≡ i ∷ ready → All (λ q. i < q) ready
    → Released (customers_in arcs i) waits waits' ready ready' → FrontSoFar stages arcs (order ++ i ∷ []) ready' waits'
front_more stages arcs order ready old ready' waits waits' i ends front is above released =
    let first : IsReady stages arcs order i = front.ready_are i (subst (λ xs. Contains xs i) (sym is) (0, omega arith, refl)) in
    let known : (j : ℕ) → IsReady stages arcs order j → (i ≡ j) ⊎ Contains ready j = λ j h. in_cons i ready j (subst (λ xs. Contains xs j) is (front.all_ready j h)) in
    let counts : (j : ℕ) → j < stages → get_or waits' j 0 ≡ missing arcs (order ++ i ∷ []) j =
    λ j within. omega (arith, released.fewer j, front.waits_are j within, missing_push arcs order i j first.new) in
    record {
      next = each_push (IsLowestReady stages arcs) order i front.next (record {
        ready = first;
        lowest = λ k h. ⊎_elim (λ same. omega (arith, same)) (λ later. omega (arith, above later.0 k later.1, later.2)) (known k h);
      });
      waits_long = released.long ∙ front.waits_long;
      waits_are = counts;
      ready_are = λ j now. ⊎_elim
          (λ was.
          let old_ready = front.ready_are j (subst (λ xs. Contains xs j) (sym is) (in_tail i ready j was)) in
          record {
            stage = old_ready.stage;
            new = λ inside. ⊎_elim old_ready.new (λ same. absurd (omega (arith, above was.0 j was.1, was.2, same))) (Contains-push_cases order i j inside);
            suppliers = λ s l. Contains-append_left order (i ∷ []) s (old_ready.suppliers s l);
          })
          (λ p.
          let lead = customers_lead arcs i j p.0 in
          let within : j < stages = subst (λ x. x < stages) lead.3 (ends lead.0 no_arc lead.1).1 in
          record {
            stage = within;
            new = λ inside. ⊎_elim
                (λ earlier. first.new (supplier_taken stages arcs order i j front.next earlier lead))
                (λ same. first.new (first.suppliers i (subst (λ x. Leads arcs i x) (sym same) lead)))
                (Contains-push_cases order i j inside);
            suppliers = λ s l. missing_none arcs (order ++ i ∷ []) j s (sym (counts j within) ∙ p.1) l;
          })
          (released.only j now);
      all_ready = λ j h.
          let none : get_or waits' j 0 ≡ 0 = counts j h.stage ∙ none_missing arcs (order ++ i ∷ []) j h.suppliers in
          ⊎_elim
          (λ inside. released.come j inside none)
          (λ out. ⊎_elim
          (λ same. absurd (h.new (subst (λ x. Contains (order ++ i ∷ []) x) same (Contains-push order i))))
          (released.stay j)
          (known j (record {
            stage = h.stage;
            new = λ inside. h.new (Contains-append_left order (i ∷ []) j inside);
            suppliers = λ s l. ⊎_elim (λ earlier. earlier)
                (λ same. absurd (out (leads_customers arcs i j (subst (λ x. Leads arcs x j) (sym same) l))))
                (Contains-push_cases order i s (h.suppliers s l));
          })))
          (cases_taken (customers_in arcs i) j);
    }

pub first_is : (stages : ℕ) (arcs : List SupplyArc) (order ready old waits : List ℕ) (i : ℕ) → FrontSoFar stages arcs order old waits → old ≡ i ∷ ready → IsReady stages arcs order i
first_is stages arcs order ready old waits i front is = front.ready_are i (subst (λ xs. Contains xs i) (sym is) (0, omega arith, refl))

sum_by-none : (f : ℕ → ℕ) (xs : List ℕ) → All (λ x. f x ≡ 0) xs → sum_by f xs ≡ 0
sum_by-none f xs none = omega (arith, sum_by-le f 0 xs (λ k d inside. omega (arith, none k d inside)))

pub customers_few : (stages : ℕ) (arcs : List SupplyArc) (order ready old waits : List ℕ) (i : ℕ) → HasEnds stages arcs → FrontSoFar stages arcs order old waits → old ≡ i ∷ ready
    → (j : ℕ) → count_by (λ c. c == j) (customers_in arcs i) ≤ get_or waits j 0
customers_few stages arcs order ready old waits i ends front is j = ⊎_elim
    (λ within. omega (arith, front.waits_are j within, missing_push arcs order i j (first_is stages arcs order ready old waits i front is).new))
    (λ past.
    let none = sum_by-none (here j) (customers_in arcs i) (λ k d inside. ap (λ b. cond b 1 0) (ne_eqb _ j (λ same. omega (arith, same, past, customers_there stages arcs i ends k d inside)))) in
    omega (arith, none))
    (cases_lt j stages)
