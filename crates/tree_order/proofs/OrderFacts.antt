-- The order by neighbours is the order in which the walk sees the stages, and the other way round.
use Rattle.std.proofs.Common.{ℕ, zero, suc, ◌≢◌, ◌<◌, ◌≤◌, List, length, get_or, sym, ◌∙◌, subst, ⊎_elim, arith}
use Rattle.std.specs.Prelude.{All, AllPairs}
use Rattle.std.proofs.lemmas.Bool.{cases_eq, cases_lt}
use Rattle.std.proofs.lemmas.List.{get_or_default}
use Rattle.service_model.specs.declared.stage.SupplyArc.{SupplyArc}
use Rattle.service_model.specs.Forests.{AreNeighbours, Chain, SameGroup, IsFirstOfGroup, IsTie, IsSeenOrder}
use Rattle.tree_order.specs.Links.{JoinsStages}
use Rattle.tree_order.proofs.ArcFacts.{OneArc, find_place}
use Rattle.tree_order.proofs.PlaceFacts.{IsRootAt, IsChildAt, IsWalkOrder, find_child, place_of}
use Rattle.tree_order.proofs.GroupFacts.{group_of_neighbours, group_step, neighbour_low, first_from_root, root_from_first, child_not_first, group_together}

-- each stage once, by places with the default 0

pub once_from : (seen : List ℕ) → ((k m : ℕ) → k < m → m < length seen → get_or seen k 0 ≢ get_or seen m 0) → AllPairs (λ i j. i ≢ j) seen
once_from seen apart = λ k m d less inside same.
    apart k m less inside (get_or_default seen k 0 d (omega (arith, less, inside)) ∙ same ∙ get_or_default seen m d 0 inside)

pub low_from : (stages : ℕ) (seen : List ℕ) → ((k : ℕ) → k < length seen → get_or seen k 0 < stages) → All (λ j. j < stages) seen
low_from stages seen low = λ k d inside. omega (arith, low k inside, get_or_default seen k d 0 inside)

-- ties

tie_earlier : (arcs : List SupplyArc) (seen : List ℕ) (k p a : ℕ) → k < length seen → IsTie arcs seen k p a → (IsRootAt arcs seen k → ⊥) → p < k
tie_earlier arcs seen k p a inside tie not_root = ⊎_elim
    (λ root. absurd (not_root root))
    (λ c.
    let child = c.2 in
    ⊎_elim
    (λ low. absurd (tie.first c.0 low (c.1, child.arc, child.joins)))
    (λ high. omega (arith, high, child.earlier))
    (cases_lt c.0 p))
    (find_child arcs seen k)

-- with one arc between two stages, a tie to an earlier place is that of a child
child_from_tie : (arcs : List SupplyArc) (seen : List ℕ) (k p a : ℕ) → OneArc arcs → IsTie arcs seen k p a → p < k → IsChildAt arcs seen k p a
child_from_tie arcs seen k p a single tie earlier = record {
  earlier = earlier;
  arc = tie.arc;
  joins = tie.joins;
  least_place = tie.first;
  least_arc = λ b arc joins. let same = single a b (get_or seen p 0) (get_or seen k 0) tie.arc arc tie.joins joins in omega (arith, same);
}

pub tie_from_child : (arcs : List SupplyArc) (seen : List ℕ) (k p a : ℕ) → k < length seen → IsChildAt arcs seen k p a → IsTie arcs seen k p a
tie_from_child arcs seen k p a inside child = record {
  place = omega (arith, child.earlier, inside);
  arc = child.arc;
  joins = child.joins;
  first = child.least_place;
}

pub seen_order : (stages : ℕ) (arcs : List SupplyArc) (seen : List ℕ) → JoinsStages stages arcs → OneArc arcs → IsWalkOrder stages arcs seen → IsSeenOrder stages arcs seen
seen_order stages arcs seen ends single order = record {
  each_once = record { low = low_from stages seen order.stage; once = once_from seen order.once; each = order.each };
  together = λ k l m less less' inside group. group_together stages arcs seen ends order k l m less less' inside group;
  lowest = λ k m first less inside. order.lowest k m (root_from_first arcs seen k first) less inside;
  sorted = λ k m p q a b less inside not_first not_first' tie tie'.
      let low : k < length seen = omega (arith, less, inside) in
      let earlier = tie_earlier arcs seen k p a low tie (λ root. not_first (first_from_root stages arcs seen ends order k low root)) in
      let earlier' = tie_earlier arcs seen m q b inside tie' (λ root. not_first' (first_from_root stages arcs seen ends order m inside root)) in
      order.sorted k m p q a b less inside (child_from_tie arcs seen k p a single tie earlier) (child_from_tie arcs seen m q b single tie' earlier');
}

-- the other way round

apart_from : (stages : ℕ) (arcs : List SupplyArc) (seen : List ℕ) → IsSeenOrder stages arcs seen → (k m : ℕ) → k < m → m < length seen → get_or seen k 0 ≢ get_or seen m 0
apart_from stages arcs seen order k m less inside same = order.each_once.once k m 0 less inside same

-- an arc leads from before place k to it or past it, on the way from place p
pub record IsCrossing (arcs : List SupplyArc) (seen : List ℕ) (k p q m : ℕ) : Type 0 where
  pub before : q < k
  pub after : k ≤ m
  pub inside : m < length seen
  pub joined : AreNeighbours arcs (get_or seen q 0) (get_or seen m 0)
  pub group : SameGroup arcs (get_or seen p 0) (get_or seen m 0)

crossing : (stages : ℕ) (arcs : List SupplyArc) (seen : List ℕ) → JoinsStages stages arcs → IsSeenOrder stages arcs seen → (k p : ℕ) → p < k → (n m : ℕ) → k ≤ m → m < length seen → Chain arcs (get_or seen p 0) (get_or seen m 0) n
    → (q : ℕ) × (l : ℕ) × IsCrossing arcs seen k p q l
crossing stages arcs seen ends order k p before zero m after inside same = absurd (apart_from stages arcs seen order p m (omega (arith, before, after)) inside same)
crossing stages arcs seen ends order k p before (suc n) m after inside (x, chain, joined) =
    let at = place_of seen x (order.each_once.each x (neighbour_low stages arcs x (get_or seen m 0) ends joined)) in
    ⊎_elim
    (λ low. (
      at.0,
      m,
      record {
        before = low;
        after = after;
        inside = inside;
        joined = subst (λ v. AreNeighbours arcs v (get_or seen m 0)) (sym at.1.is) joined;
        group = group_step arcs (get_or seen p 0) x (get_or seen m 0) (n, chain) joined;
      },
    ))
    (λ high. crossing stages arcs seen ends order k p before n at.0 high at.1.inside (subst (λ v. Chain arcs (get_or seen p 0) v n) (sym at.1.is) chain))
    (cases_lt at.0 k)

-- the last arc of a chain between two places has its first end at a place
last_neighbour : (stages : ℕ) (arcs : List SupplyArc) (seen : List ℕ) → JoinsStages stages arcs → IsSeenOrder stages arcs seen → (n p k : ℕ) → p < k → k < length seen → Chain arcs (get_or seen p 0) (get_or seen k 0) n
    → (q : ℕ) × (q < length seen) × AreNeighbours arcs (get_or seen q 0) (get_or seen k 0)
last_neighbour stages arcs seen ends order zero p k before inside same = absurd (apart_from stages arcs seen order p k before inside same)
last_neighbour stages arcs seen ends order (suc n) p k before inside (x, chain, joined) =
    let at = place_of seen x (order.each_once.each x (neighbour_low stages arcs x (get_or seen k 0) ends joined)) in
    (at.0, at.1.inside, subst (λ v. AreNeighbours arcs v (get_or seen k 0)) (sym at.1.is) joined)

-- a stage with a neighbour has a tie
tie_of : (arcs : List SupplyArc) (seen : List ℕ) (k q : ℕ) → q < length seen → AreNeighbours arcs (get_or seen q 0) (get_or seen k 0) → (p : ℕ) × (a : ℕ) × (p ≤ q) × IsTie arcs seen k p a
tie_of arcs seen k q inside joined = ⊎_elim
    (λ none. absurd (none q inside joined))
    (λ f. (
      f.0,
      f.1,
      ⊎_elim (λ high. absurd (f.2.first q high joined)) (λ low. low) (cases_lt q f.0),
      record { place = f.2.low; arc = f.2.arc.low; joins = f.2.arc.joins; first = f.2.first },
    ))
    (find_place arcs seen (length seen) (get_or seen k 0))

-- with no neighbour before it, a stage is the first of its group
first_from_place : (stages : ℕ) (arcs : List SupplyArc) (seen : List ℕ) → JoinsStages stages arcs → IsSeenOrder stages arcs seen → (k : ℕ) → k < length seen → IsRootAt arcs seen k → IsFirstOfGroup arcs seen k
first_from_place stages arcs seen ends order k inside root p before (n, chain) =
    let c = crossing stages arcs seen ends order k p before n k (omega arith) inside chain in
    let q = c.0 in
    let m = c.1 in
    let cross = c.2 in
    let past : k < m = ⊎_elim
    (λ same. absurd (root c.0 cross.before (subst (λ v. AreNeighbours arcs (get_or seen c.0 0) (get_or seen v 0)) (sym same) cross.joined)))
    (λ other. omega (arith, cross.after, other))
    (cases_eq k c.1) in
    let near = last_neighbour stages arcs seen ends order n p k before inside chain in
    let tie = tie_of arcs seen k near.0 near.1 near.2 in
    let tie' = tie_of arcs seen c.1 c.0 (omega (arith, cross.before, inside)) cross.joined in
    let before_m : p < c.1 = omega (arith, before, past) in
    ⊎_elim
    (λ less. root tie.0 (omega (arith, less, tie'.2, cross.before)) (tie.1, tie.3.arc, tie.3.joins))
    (λ same. root tie.0 (omega (arith, same.0, tie'.2, cross.before)) (tie.1, tie.3.arc, tie.3.joins))
    (order.sorted k c.1 tie.0 tie'.0 tie.1 tie'.1 past cross.inside (λ first. first p before (n, chain)) (λ first. first p before_m cross.group) tie.3 tie'.3)

pub walk_back : (stages : ℕ) (arcs : List SupplyArc) (seen : List ℕ) → JoinsStages stages arcs → IsSeenOrder stages arcs seen → IsWalkOrder stages arcs seen
walk_back stages arcs seen ends order = record {
  stage = λ k inside. order.each_once.low k 0 inside;
  once = λ k m less inside. apart_from stages arcs seen order k m less inside;
  each = order.each_once.each;
  lowest = λ k m root less inside. order.lowest k m (first_from_place stages arcs seen ends order k (omega (arith, less, inside)) root) less inside;
  together = λ k m p root less inside before joined.
      let first = first_from_place stages arcs seen ends order k (omega (arith, less, inside)) root in
      first p before (order.together p k m before less inside (group_of_neighbours arcs (get_or seen p 0) (get_or seen m 0) joined));
  sorted = λ k m p q a b less inside child child'.
      order.sorted k m p q a b less inside (child_not_first arcs seen k p a child) (child_not_first arcs seen m q b child') (tie_from_child arcs seen k p a (omega (arith, less, inside)) child) (tie_from_child arcs seen m q b inside child');
}
