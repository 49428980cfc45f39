-- What follows of a topological order.
use Rattle.std.proofs.Common.{ℕ, zero, suc, ◌≡◌, ◌<◌, ◌≤◌, eqb, List, [], ◌∷◌, ◌++◌, length, get_or, take, refl, sym, ap, ◌∙◌, subst, ⊎_elim, add-one, arith}
use Rattle.std.specs.Prelude.{Contains}
use Rattle.std.specs.List.{IsDistinct}
use Rattle.std.proofs.lemmas.Bool.{cases_lt}
use Rattle.std.proofs.lemmas.Cmp.{nat_eq_equiv}
use Rattle.std.proofs.lemmas.List.{length-take, get_or-take, get_or_default, take_more, take_all}
use Rattle.std.proofs.lemmas.Map.Made.{length-le_from_is_member}
use Rattle.service_model.specs.declared.stage.SupplyArc.{SupplyArc}
use Rattle.service_model.specs.Walks.{Leads}
use Rattle.service_model.specs.Orders.{IsReady, ComesNext, IsTopological}
use Rattle.service_model.proofs.TakenFacts.{taken_from, taken_to, distinct_cons, none_distinct}
use Rattle.service_model.proofs.CustomerFacts.{in_cons}
use Rattle.service_model.proofs.FrontFacts.{few_ready}

earlier_apart : (stages : ℕ) (arcs : List SupplyArc) (order : List ℕ) → ComesNext stages arcs order → (p q : ℕ) → p < q → q < length order → get_or order p 0 ≡ get_or order q 0 → ⊥
earlier_apart stages arcs order next p q less inside same =
    (next q inside).ready.new (p, omega (arith, less, inside, length-take q order), get_or-take q order p (get_or order q 0) less ∙ get_or_default order p (get_or order q 0) 0 (omega arith) ∙ same)

-- each stage stands once
pub stage_once : (stages : ℕ) (arcs : List SupplyArc) (order : List ℕ) → IsTopological stages arcs order → (p q : ℕ) → p < length order → q < length order → get_or order p 0 ≡ get_or order q 0 → p ≡ q
stage_once stages arcs order sorted p q low high same = ⊎_elim
    (λ less. absurd (earlier_apart stages arcs order sorted.next p q less high same))
    (λ past. ⊎_elim
    (λ more. absurd (earlier_apart stages arcs order sorted.next q p more low (sym same)))
    (λ not_more. omega (arith, past, not_more))
    (cases_lt q p))
    (cases_lt p q)

-- each place has a stage
pub place_stage : (stages : ℕ) (arcs : List SupplyArc) (order : List ℕ) → IsTopological stages arcs order → (p : ℕ) → p < length order → get_or order p 0 < stages
place_stage stages arcs order sorted p inside = (sorted.next p inside).ready.stage

-- each stage has a place
pub stage_place : (stages : ℕ) (arcs : List SupplyArc) (order : List ℕ) → IsTopological stages arcs order → (j : ℕ) → j < stages → (p : ℕ) × (p < length order) × (get_or order p 0 ≡ j)
stage_place stages arcs order sorted j within =
    let there = sorted.each j within in
    (there.0, there.1, get_or_default order there.0 0 j there.1 ∙ there.2)

-- the place of a supplier is before that of its customer
pub supplier_first : (stages : ℕ) (arcs : List SupplyArc) (order : List ℕ) → IsTopological stages arcs order → (p q : ℕ) → p < length order → q < length order → Leads arcs (get_or order p 0) (get_or order q 0) → p < q
supplier_first stages arcs order sorted p q low high lead =
    let there = (sorted.next q high).ready.suppliers (get_or order p 0) lead in
    let before : there.0 < q = omega (arith, there.1, length-take q order) in
    let same : get_or order there.0 0 ≡ get_or order p 0 =
    get_or_default order there.0 0 (get_or order p 0) (omega (arith, before, high)) ∙ sym (get_or-take q order there.0 (get_or order p 0) before) ∙ there.2 in
    omega (arith, before, stage_once stages arcs order sorted there.0 p (omega (arith, before, high)) low same)

-- n - 1 and on down to 0
down : ℕ → List ℕ
down zero = []
down (suc n) = n ∷ down n

length_down : (n : ℕ) → length (down n) ≡ n
unfolding down
length_down zero = refl
length_down (suc n) = ap suc (length_down n)

down_low : (n q : ℕ) → Contains (down n) q → q < n
unfolding down
down_low zero q h = absurd (omega (arith, h.1))
down_low (suc n) q h = ⊎_elim (λ same. omega (arith, same)) (λ rest. omega (arith, down_low n q rest)) (in_cons n (down n) q h)

down_distinct : (n : ℕ) → IsDistinct eqb (down n)
unfolding down
down_distinct zero = none_distinct
down_distinct (suc n) = distinct_cons (down n) n (down_distinct n) (λ h. omega (arith, down_low n n h))

-- there are as many places as stages
pub order_long : (stages : ℕ) (arcs : List SupplyArc) (order : List ℕ) → IsTopological stages arcs order → length order ≡ stages
order_long stages arcs order sorted =
    let many = length-le_from_is_member nat_eq_equiv (down stages) order (down_distinct stages) (λ q is. taken_from order q (sorted.each q (down_low stages q (taken_to (down stages) q is)))) in
    omega (arith, few_ready stages arcs order sorted.next, many, length_down stages)

same_front : (stages : ℕ) (arcs : List SupplyArc) (order other : List ℕ) → ComesNext stages arcs order → ComesNext stages arcs other → (k : ℕ) → k ≤ length order → k ≤ length other → take k order ≡ take k other
same_front stages arcs order other next next' zero low high = refl
same_front stages arcs order other next next' (suc k) low high =
    let before = same_front stages arcs order other next next' k (omega (arith, low)) (omega (arith, high)) in
    let here = next k (omega (arith, low)) in
    let there = next' k (omega (arith, high)) in
    let same : get_or order k 0 ≡ get_or other k 0 =
    omega (
      arith,
      here.lowest (get_or other k 0) (subst (λ (xs : List ℕ). IsReady stages arcs xs (get_or other k 0)) (sym before) there.ready),
      there.lowest (get_or order k 0) (subst (λ (xs : List ℕ). IsReady stages arcs xs (get_or order k 0)) before here.ready),
    ) in
    let grown : (xs : List ℕ) → k < length xs → take (suc k) xs ≡ take k xs ++ get_or xs k 0 ∷ [] = λ xs inside. rw (← add-one) (take_more xs k 0 inside) in
    grown order (omega (arith, low)) ∙ ap (λ xs. xs ++ get_or order k 0 ∷ []) before ∙ ap (λ x. take k other ++ x ∷ []) same ∙ sym (grown other (omega (arith, high)))

-- there is one topological order
pub one_order : (stages : ℕ) (arcs : List SupplyArc) (order other : List ℕ) → IsTopological stages arcs order → IsTopological stages arcs other → order ≡ other
one_order stages arcs order other sorted sorted' =
    let long = order_long stages arcs order sorted in
    let long' = order_long stages arcs other sorted' in
    sym (take_all stages order (omega (arith, long)))
    ∙ same_front stages arcs order other sorted.next sorted'.next stages (omega (arith, long)) (omega (arith, long'))
    ∙ take_all stages other (omega (arith, long'))
