-- From the order by neighbours back to the steps of the walk.
use Rattle.std.proofs.Common.{ℕ, ◌≡◌, ◌<◌, ◌≤◌, List, length, get_or, take, sym, ap, ◌∙◌, subst, inl, inr, ⊎_elim, arith}
use Rattle.std.specs.Prelude.{Contains, ◌⊎◌}
use Rattle.std.proofs.lemmas.Bool.{cases_eq, cases_lt}
use Rattle.std.proofs.lemmas.List.{get_or_default, get_or-take, length-take}
use Rattle.service_model.specs.declared.stage.SupplyArc.{SupplyArc}
use Rattle.service_model.specs.Net.{arc_in}
use Rattle.service_model.specs.Forests.{Joins, AreNeighbours}
use Rattle.tree_order.specs.Links.{JoinsStages}
use Rattle.tree_order.specs.Steps.{IsWay, IsFirstWay, IsNextRoot, ComesNextSeen}
use Rattle.tree_order.proofs.LinkFacts.{joined_low}
use Rattle.tree_order.proofs.PlaceFacts.{IsRootAt, IsChildAt, IsWalkOrder, IsPlaceOf, find_child, later_place}

-- a way from the first k places leads to a later place
pub record IsWayTo (arcs : List SupplyArc) (seen : List ℕ) (k q b z m : ℕ) : Type 0 where
  pub before : q < k
  pub after : k ≤ m
  pub at : IsPlaceOf seen z m
  pub arc : b < length arcs
  pub joins : Joins (arc_in arcs b) (get_or seen q 0) (get_or seen m 0)

way_to : (stages : ℕ) (arcs : List SupplyArc) (seen : List ℕ) → JoinsStages stages arcs → IsWalkOrder stages arcs seen → (k q b z : ℕ) → k < length seen → IsWay arcs (take k seen) q b z → (m : ℕ) × IsWayTo arcs seen k q b z m
way_to stages arcs seen ends order k q b z inside way =
    let low : q < k = omega (arith, way.place, length-take k seen) in
    let joins : Joins (arc_in arcs b) (get_or seen q 0) z = subst (λ v. Joins (arc_in arcs b) v z) (get_or-take k seen q 0 low) way.joins in
    let f = later_place seen k z (order.each z (joined_low stages arcs b (get_or seen q 0) z ends way.arc joins)) inside way.new in
    (f.0, record { before = low; after = f.1; at = f.2; arc = way.arc; joins = subst (λ v. Joins (arc_in arcs b) (get_or seen q 0) v) (sym f.2.is) joins })

new_there : (stages : ℕ) (arcs : List SupplyArc) (seen : List ℕ) → IsWalkOrder stages arcs seen → (k : ℕ) → k < length seen → Contains (take k seen) (get_or seen k 0) → ⊥
new_there stages arcs seen order k inside h =
    let low : h.0 < k = omega (arith, h.1, length-take k seen) in
    order.once h.0 k low inside (get_or_default seen h.0 0 (get_or seen k 0) (omega (arith, low, inside)) ∙ sym (get_or-take k seen h.0 (get_or seen k 0) low) ∙ h.2)

root_next : (stages : ℕ) (arcs : List SupplyArc) (seen : List ℕ) → JoinsStages stages arcs → IsWalkOrder stages arcs seen → (k : ℕ) → k < length seen → IsRootAt arcs seen k → IsNextRoot stages arcs (take k seen) (get_or seen k 0)
root_next stages arcs seen ends order k inside root = record {
  stage = order.stage k inside;
  new = new_there stages arcs seen order k inside;
  alone = λ q b z way.
      let t = way_to stages arcs seen ends order k q b z inside way in
      let near : AreNeighbours arcs (get_or seen q 0) (get_or seen t.0 0) = (b, t.1.arc, t.1.joins) in
      ⊎_elim
      (λ same. root q t.1.before (subst (λ v. AreNeighbours arcs (get_or seen q 0) (get_or seen v 0)) (sym same) near))
      (λ other. order.together k t.0 q root (omega (arith, t.1.after, other)) t.1.at.inside t.1.before near)
      (cases_eq k t.0);
  lowest = λ z stage fresh.
      let f = later_place seen k z (order.each z stage) inside fresh in
      ⊎_elim
      (λ same. omega (arith, ap (λ v. get_or seen v 0) same, f.2.is))
      (λ other. omega (arith, order.lowest k f.0 root (omega (arith, f.1, other)) f.2.inside, f.2.is))
      (cases_eq k f.0);
}

-- no way from the first k places comes before that of the child at place k
way_after : (stages : ℕ) (arcs : List SupplyArc) (seen : List ℕ) → IsWalkOrder stages arcs seen → (k p a q b m : ℕ) → IsChildAt arcs seen k p a → q < k → k ≤ m → m < length seen → b < length arcs → Joins (arc_in arcs b) (get_or seen q 0) (get_or seen m 0)
    → (p < q) ⊎ ((p ≡ q) × (a ≤ b))
way_after stages arcs seen order k p a q b m child before after inside arc joins = ⊎_elim
    (λ root. absurd (root q (omega (arith, before, after)) (b, arc, joins)))
    (λ d.
    let two = d.2 in
    let le : d.0 ≤ q = ⊎_elim (λ bad. absurd (two.least_place q bad (b, arc, joins))) (λ h. h) (cases_lt q d.0) in
    ⊎_elim
    (λ same.
    let mine : Joins (arc_in arcs b) (get_or seen q 0) (get_or seen k 0) = subst (λ v. Joins (arc_in arcs b) (get_or seen q 0) (get_or seen v 0)) (sym same) joins in
    ⊎_elim
    (λ less. inl less)
    (λ more. ⊎_elim
    (λ e. inr (e, child.least_arc b arc (subst (λ v. Joins (arc_in arcs b) (get_or seen v 0) (get_or seen k 0)) (sym e) mine)))
    (λ apart. absurd (child.least_place q (omega (arith, more, apart)) (b, arc, mine)))
    (cases_eq p q))
    (cases_lt p q))
    (λ other. ⊎_elim
    (λ less. inl (omega (arith, less, le)))
    (λ e. ⊎_elim
    (λ equal. inr (e.0 ∙ equal, omega (arith, e.1, two.least_arc b arc (subst (λ v. Joins (arc_in arcs b) (get_or seen v 0) (get_or seen m 0)) (sym equal) joins))))
    (λ apart. inl (omega (arith, e.0, le, apart)))
    (cases_eq d.0 q))
    (order.sorted k m p d.0 a d.1 (omega (arith, after, other)) inside child two))
    (cases_eq k m))
    (find_child arcs seen m)

child_next : (stages : ℕ) (arcs : List SupplyArc) (seen : List ℕ) → JoinsStages stages arcs → IsWalkOrder stages arcs seen → (k p a : ℕ) → k < length seen → IsChildAt arcs seen k p a → IsFirstWay arcs (take k seen) p a (get_or seen k 0)
child_next stages arcs seen ends order k p a inside child = record {
  way = record {
    place = omega (arith, child.earlier, inside, length-take k seen);
    arc = child.arc;
    joins = subst (λ v. Joins (arc_in arcs a) v (get_or seen k 0)) (sym (get_or-take k seen p 0 child.earlier)) child.joins;
    new = new_there stages arcs seen order k inside;
  };
  first = λ q b z way.
      let t = way_to stages arcs seen ends order k q b z inside way in
      way_after stages arcs seen order k p a q b t.0 child t.1.before t.1.after t.1.at.inside t.1.arc t.1.joins;
}

pub steps_from : (stages : ℕ) (arcs : List SupplyArc) (seen : List ℕ) → JoinsStages stages arcs → IsWalkOrder stages arcs seen → ComesNextSeen stages arcs seen
steps_from stages arcs seen ends order k inside = ⊎_elim
    (λ root. inl (root_next stages arcs seen ends order k inside root))
    (λ c. inr (c.0, c.1, child_next stages arcs seen ends order k c.0 c.1 inside c.2))
    (find_child arcs seen k)
