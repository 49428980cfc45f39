-- From the steps of the walk to the order by neighbours.
use Rattle.std.proofs.Common.{ℕ, zero, suc, ◌≡◌, ◌≢◌, ◌+◌, ◌<◌, ◌≤◌, List, [], ◌∷◌, ◌++◌, length, get_or, take, sym, ap, ◌∙◌, subst, inl, inr, ⊎_elim, refl, arith}
use Rattle.std.specs.Prelude.{Contains, ◌⊎◌}
use Rattle.std.proofs.lemmas.Bool.{cases_eq, cases_lt}
use Rattle.std.proofs.lemmas.List.{get_or_default, get_or-take, length-take, take_all, take_more}
use Rattle.std.proofs.lemmas.Map.Steps.{le-length_from_below}
use Rattle.service_model.specs.declared.stage.SupplyArc.{SupplyArc}
use Rattle.service_model.specs.Net.{arc_in, no_arc}
use Rattle.service_model.specs.Forests.{Joins}
use Rattle.tree_order.specs.Links.{JoinsStages}
use Rattle.tree_order.specs.Steps.{IsWay, IsFirstWay, IsNextRoot, IsNextSeen, ComesNextSeen}
use Rattle.tree_order.proofs.LinkFacts.{other_is, joined_low}
use Rattle.tree_order.proofs.SeenFacts.{few_new, among_from}
use Rattle.tree_order.proofs.PlaceFacts.{IsRootAt, IsChildAt, IsWalkOrder}

next_new : (stages : ℕ) (arcs : List SupplyArc) (seen : List ℕ) (y : ℕ) → IsNextSeen stages arcs seen y → Contains seen y → ⊥
next_new stages arcs seen y (inl root) = root.new
next_new stages arcs seen y (inr (p, a, first)) = first.way.new

pub next_low : (stages : ℕ) (arcs : List SupplyArc) (seen : List ℕ) (y : ℕ) → JoinsStages stages arcs → IsNextSeen stages arcs seen y → y < stages
next_low stages arcs seen y ends (inl root) = root.stage
next_low stages arcs seen y ends (inr (p, a, first)) = joined_low stages arcs a (get_or seen p 0) y ends first.way.arc first.way.joins

-- an arc joins a stage to one stage
pub joined_once : (stages : ℕ) (arcs : List SupplyArc) (a b x u y z : ℕ) → JoinsStages stages arcs → a < length arcs → Joins (arc_in arcs a) x y → Joins (arc_in arcs b) u z → a ≡ b → x ≡ u → y ≡ z
joined_once stages arcs a b x u y z ends inside one two same_arc same =
    let there : Joins (arc_in arcs a) x z = subst (λ v. Joins (arc_in arcs v) x z) (sym same_arc) (subst (λ v. Joins (arc_in arcs b) v z) (sym same) two) in
    let apart = (ends a no_arc inside).2 in
    other_is (arc_in arcs a) x y apart one ∙ sym (other_is (arc_in arcs a) x z apart there)

-- one stage is seen next

first_ways_agree : (arcs : List SupplyArc) (seen : List ℕ) (p a y q b z : ℕ) → IsFirstWay arcs seen p a y → IsFirstWay arcs seen q b z → (p ≡ q) × (a ≡ b)
first_ways_agree arcs seen p a y q b z one two = ⊎_elim
    (λ less. ⊎_elim (λ more. absurd (omega (arith, less, more))) (λ e. absurd (omega (arith, less, e.0))) (two.first p a y one.way))
    (λ e. ⊎_elim (λ more. absurd (omega (arith, more, e.0))) (λ f. (e.0, omega (arith, e.1, f.1))) (two.first p a y one.way))
    (one.first q b z two.way)

next_one : (stages : ℕ) (arcs : List SupplyArc) (seen : List ℕ) (y z : ℕ) → JoinsStages stages arcs → IsNextSeen stages arcs seen y → IsNextSeen stages arcs seen z → y ≡ z
next_one stages arcs seen y z ends (inl one) (inl two) =
    let a = one.lowest z two.stage two.new in
    let b = two.lowest y one.stage one.new in
    omega arith
next_one stages arcs seen y z ends (inl one) (inr (p, a, two)) = absurd (one.alone p a z two.way)
next_one stages arcs seen y z ends (inr (p, a, one)) (inl two) = absurd (two.alone p a y one.way)
next_one stages arcs seen y z ends (inr (p, a, one)) (inr (q, b, two)) =
    let same = first_ways_agree arcs seen p a y q b z one two in
    joined_once stages arcs a b (get_or seen p 0) (get_or seen q 0) y z ends one.way.arc one.way.joins two.way.joins same.1 (ap (λ v. get_or seen v 0) same.0)

same_front : (stages : ℕ) (arcs : List SupplyArc) (seen other : List ℕ) → JoinsStages stages arcs → ComesNextSeen stages arcs seen → ComesNextSeen stages arcs other → (k : ℕ) → k ≤ length seen → k ≤ length other
    → take k seen ≡ take k other
same_front stages arcs seen other ends one two zero within within' = refl
same_front stages arcs seen other ends one two (suc k) within within' =
    let before = same_front stages arcs seen other ends one two k (omega arith) (omega arith) in
    let here : get_or seen k 0 ≡ get_or other k 0 =
    next_one stages arcs (take k other) (get_or seen k 0) (get_or other k 0) ends (subst (λ (s : List ℕ). IsNextSeen stages arcs s (get_or seen k 0)) before (one k (omega arith))) (two k (omega arith)) in
    let e : suc k ≡ k + 1 = omega arith in
    ap (λ n. take n seen) e
    ∙ take_more seen k 0 (omega arith)
    ∙ ap (λ (s : List ℕ). s ++ get_or seen k 0 ∷ []) before
    ∙ ap (λ v. take k other ++ v ∷ []) here
    ∙ sym (take_more other k 0 (omega arith))
    ∙ ap (λ n. take n other) (sym e)

pub long_is : (stages : ℕ) (arcs : List SupplyArc) (seen : List ℕ) → JoinsStages stages arcs → ComesNextSeen stages arcs seen → ((j : ℕ) → j < stages → Contains seen j) → length seen ≡ stages
long_is stages arcs seen ends next each =
    let most = few_new seen stages (λ k inside. next_low stages arcs (take k seen) (get_or seen k 0) ends (next k inside)) (λ k inside. next_new stages arcs (take k seen) (get_or seen k 0) (next k inside)) in
    let least = le-length_from_below seen stages (λ q low. among_from seen q (each q low)) in
    omega arith

-- the steps determine the list
pub seen_once : (stages : ℕ) (arcs : List SupplyArc) (seen other : List ℕ) → JoinsStages stages arcs → ComesNextSeen stages arcs seen → ComesNextSeen stages arcs other → ((j : ℕ) → j < stages → Contains seen j)
    → ((j : ℕ) → j < stages → Contains other j) → seen ≡ other
seen_once stages arcs seen other ends one two each each' =
    let a = long_is stages arcs seen ends one each in
    let b = long_is stages arcs other ends two each' in
    sym (take_all stages seen (omega arith)) ∙ same_front stages arcs seen other ends one two stages (omega arith) (omega arith) ∙ take_all stages other (omega arith)

-- in the list up to place k

new_at : (stages : ℕ) (arcs : List SupplyArc) (seen : List ℕ) (k m : ℕ) → ComesNextSeen stages arcs seen → k ≤ m → m < length seen → Contains (take k seen) (get_or seen m 0) → ⊥
new_at stages arcs seen k m next le inside (s, low, is) =
    let short : s < k = omega (arith, low, length-take k seen) in
    next_new stages arcs (take m seen) (get_or seen m 0) (next m inside)
    (s, omega (arith, short, le, inside, length-take m seen), get_or-take m seen s (get_or seen m 0) (omega arith) ∙ sym (get_or-take k seen s (get_or seen m 0) short) ∙ is)

way_at : (stages : ℕ) (arcs : List SupplyArc) (seen : List ℕ) (k m p a : ℕ) → ComesNextSeen stages arcs seen → k ≤ m → m < length seen → p < k → a < length arcs → Joins (arc_in arcs a) (get_or seen p 0) (get_or seen m 0)
    → IsWay arcs (take k seen) p a (get_or seen m 0)
way_at stages arcs seen k m p a next le inside low arc joins = record {
  place = omega (arith, low, le, inside, length-take k seen);
  arc = arc;
  joins = subst (λ v. Joins (arc_in arcs a) v (get_or seen m 0)) (sym (get_or-take k seen p 0 low)) joins;
  new = new_at stages arcs seen k m next le inside;
}

root_is : (stages : ℕ) (arcs : List SupplyArc) (seen : List ℕ) (k : ℕ) → ComesNextSeen stages arcs seen → k < length seen → IsRootAt arcs seen k → IsNextRoot stages arcs (take k seen) (get_or seen k 0)
root_is stages arcs seen k next inside root = ⊎_elim
    (λ r. r)
    (λ w.
    let way = w.2.way in
    let low : w.0 < k = omega (arith, way.place, length-take k seen) in
    absurd (root w.0 low (w.1, way.arc, subst (λ v. Joins (arc_in arcs w.1) v (get_or seen k 0)) (get_or-take k seen w.0 0 low) way.joins)))
    (next k inside)

-- the step by which a child comes is that of its parent's place and arc
child_is : (stages : ℕ) (arcs : List SupplyArc) (seen : List ℕ) (k p a : ℕ) → ComesNextSeen stages arcs seen → k < length seen → IsChildAt arcs seen k p a → IsFirstWay arcs (take k seen) p a (get_or seen k 0)
child_is stages arcs seen k p a next inside child =
    let mine = way_at stages arcs seen k k p a next (omega arith) inside child.earlier child.arc child.joins in
    ⊎_elim
    (λ r. absurd (r.alone p a (get_or seen k 0) mine))
    (λ w.
    let way = w.2.way in
    let low : w.0 < k = omega (arith, way.place, length-take k seen) in
    let joins : Joins (arc_in arcs w.1) (get_or seen w.0 0) (get_or seen k 0) = subst (λ v. Joins (arc_in arcs w.1) v (get_or seen k 0)) (get_or-take k seen w.0 0 low) way.joins in
    let place : w.0 ≡ p = ⊎_elim
    (λ less. absurd (child.least_place w.0 less (w.1, way.arc, joins)))
    (λ more. ⊎_elim (λ bad. absurd (omega (arith, bad, more, child.earlier))) (λ e. e.0) (w.2.first p a (get_or seen k 0) mine))
    (cases_lt w.0 p) in
    let least = child.least_arc w.1 way.arc (subst (λ v. Joins (arc_in arcs w.1) (get_or seen v 0) (get_or seen k 0)) place joins) in
    let arc : w.1 ≡ a = ⊎_elim (λ bad. absurd (omega (arith, bad, place))) (λ e. omega (arith, e.1, least)) (w.2.first p a (get_or seen k 0) mine) in
    subst (λ v. IsFirstWay arcs (take k seen) v a (get_or seen k 0)) place (subst (λ v. IsFirstWay arcs (take k seen) w.0 v (get_or seen k 0)) arc w.2))
    (next k inside)

apart_at : (stages : ℕ) (arcs : List SupplyArc) (seen : List ℕ) (k m : ℕ) → ComesNextSeen stages arcs seen → k < m → m < length seen → get_or seen k 0 ≢ get_or seen m 0
apart_at stages arcs seen k m next less inside same =
    new_at stages arcs seen m m next (omega arith) inside
    (k, omega (arith, less, inside, length-take m seen), get_or-take m seen k (get_or seen m 0) less ∙ get_or_default seen k (get_or seen m 0) 0 (omega (arith, less, inside)) ∙ same)

sorted_at : (stages : ℕ) (arcs : List SupplyArc) (seen : List ℕ) (k m p q a b : ℕ) → JoinsStages stages arcs → ComesNextSeen stages arcs seen → k < m → m < length seen → IsChildAt arcs seen k p a → IsChildAt arcs seen m q b
    → (p < q) ⊎ ((p ≡ q) × (a < b))
sorted_at stages arcs seen k m p q a b ends next less inside one two =
    let first = child_is stages arcs seen k p a next (omega (arith, less, inside)) one in
    ⊎_elim
    (λ low. ⊎_elim
    (λ before. inl before)
    (λ same. inr (
      same.0,
      ⊎_elim
          (λ e. absurd (apart_at stages arcs seen k m next less inside (joined_once stages arcs a b (get_or seen p 0) (get_or seen q 0) (get_or seen k 0) (get_or seen m 0) ends one.arc one.joins two.joins e (ap (λ v. get_or seen v 0) same.0))))
          (λ other. omega (arith, same.1, other))
          (cases_eq a b),
    ))
    (first.first q b (get_or seen m 0) (way_at stages arcs seen k m q b next (omega (arith, less)) inside low two.arc two.joins)))
    (λ high. inl (omega (arith, high, one.earlier)))
    (cases_lt q k)

pub walk_order : (stages : ℕ) (arcs : List SupplyArc) (seen : List ℕ) → JoinsStages stages arcs → ComesNextSeen stages arcs seen → ((j : ℕ) → j < stages → Contains seen j) → IsWalkOrder stages arcs seen
walk_order stages arcs seen ends next each = record {
  stage = λ k inside. next_low stages arcs (take k seen) (get_or seen k 0) ends (next k inside);
  once = λ k m less inside. apart_at stages arcs seen k m next less inside;
  each = each;
  lowest = λ k m root less inside.
      let r = root_is stages arcs seen k next (omega (arith, less, inside)) root in
      let le = r.lowest (get_or seen m 0) (next_low stages arcs (take m seen) (get_or seen m 0) ends (next m inside)) (new_at stages arcs seen k m next (omega (arith, less)) inside) in
      let apart = apart_at stages arcs seen k m next less inside in
      omega (arith, le, apart);
  together = λ k m p root less inside low j.
      let r = root_is stages arcs seen k next (omega (arith, less, inside)) root in
      r.alone p j.0 (get_or seen m 0) (way_at stages arcs seen k m p j.0 next (omega (arith, less)) inside low j.1 j.2);
  sorted = λ k m p q a b less inside one two. sorted_at stages arcs seen k m p q a b ends next less inside one two;
}
