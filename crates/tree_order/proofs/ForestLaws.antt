-- What follows of the forest of a network.
use Rattle.std.proofs.Common.{ℕ, ◌≡◌, ◌-◌, ◌<◌, ◌≤◌, ◌==◌, List, [], length, get_or, reverse, refl, sym, ap, ◌∙◌, subst, inl, inr, ⊎_elim, arith}
use Rattle.std.specs.Prelude.{All, Contains, ◌⊎◌}
use Rattle.std.specs.List.{position_or_len}
use Rattle.std.proofs.lemmas.Bool.{cases_eq, cases_lt, eq-eqb, ne_eqb}
use Rattle.std.proofs.lemmas.List.{get_or_default, get_or-take, length-take, get_or-reverse, length-reverse, reverse-reverse}
use Rattle.std.proofs.lemmas.List.Sums.{position_or_len_is}
use Rattle.std.proofs.lemmas.Map.Steps.{le-length_from_below}
use Rattle.service_model.specs.declared.stage.SupplyArc.{SupplyArc}
use Rattle.service_model.specs.Net.{Net, arc_in, no_arc}
use Rattle.service_model.specs.Networks.{IsNetwork}
use Rattle.service_model.specs.Forests.{Joins, AreNeighbours, HasEachOnce, IsWalk, IsChildOf, IsKept}
use Rattle.tree_order.specs.declared.forest.Forest.{Forest}
use Rattle.tree_order.specs.Forest.{IsForest, ChildrenFirst, HasOneSide}
use Rattle.tree_order.proofs.ArcFacts.{one_arc, one_way}
use Rattle.tree_order.proofs.SeenFacts.{few_new, among_from}
use Rattle.tree_order.proofs.PlaceFacts.{place_of}
use Rattle.tree_order.proofs.WalkFacts.{parent_low}

-- a list of each number once is as long as there are numbers
pub each_long : (n : ℕ) (xs : List ℕ) → HasEachOnce n xs → length xs ≡ n
each_long n xs each =
    let most = few_new xs n (λ k inside. each.low k 0 inside) (λ k inside h.
    let less : h.0 < k = omega (arith, h.1, length-take k xs) in
    each.once h.0 k 0 less inside (get_or_default xs h.0 0 (get_or xs k 0) (omega (arith, less, inside)) ∙ sym (get_or-take k xs h.0 (get_or xs k 0) less) ∙ h.2)) in
    let least = le-length_from_below xs n (λ q low. among_from xs q (each.each q low)) in
    omega arith

-- the order has each stage once

-- the place from the other end
back_at : (xs : List ℕ) (k : ℕ) → k < length xs → get_or xs k 0 ≡ get_or (reverse xs) (length xs - 1 - k) 0
back_at xs k inside =
    let long = length-reverse xs in
    ap (λ (v : List ℕ). get_or v k 0) (sym (reverse-reverse xs))
    ∙ get_or-reverse (reverse xs) k 0 (omega (arith, long, inside))
    ∙ ap (λ n. get_or (reverse xs) (n - 1 - k) 0) long

in_reverse : (xs : List ℕ) (j : ℕ) → Contains (reverse xs) j → Contains xs j
in_reverse xs j (k, inside, is) =
    let long = length-reverse xs in
    let low : k < length xs = omega (arith, inside, long) in (
      length xs - 1 - k,
      omega (arith, low),
      get_or_default xs (length xs - 1 - k) j 0 (omega (arith, low)) ∙ back_at xs (length xs - 1 - k) (omega (arith, low)) ∙ ap (λ n. get_or (reverse xs) n 0) (again (length xs) k low) ∙ get_or_default (reverse xs) k 0 j inside ∙ is,
    )
  where
    again : (n k : ℕ) → k < n → n - 1 - (n - 1 - k) ≡ k
    again n k low = omega arith

-- the reverse of a list that has each number once has it too
each_back : (n : ℕ) (xs : List ℕ) → HasEachOnce n (reverse xs) → HasEachOnce n xs
each_back n xs each = record {
  low = λ k d inside.
      let long = length-reverse xs in
      omega (arith, get_or_default xs k d 0 inside ∙ back_at xs k inside, each.low (length xs - 1 - k) 0 (omega (arith, long, inside)));
  once = λ k m d less inside same.
      let long = length-reverse xs in
      let low : k < length xs = omega (arith, less, inside) in
      each.once (length xs - 1 - m) (length xs - 1 - k) 0 (omega (arith, less, inside)) (omega (arith, long, low))
      (sym (back_at xs m inside) ∙ get_or_default xs m 0 d inside ∙ sym same ∙ get_or_default xs k d 0 low ∙ back_at xs k low);
  each = λ j low. in_reverse xs j (each.each j low);
}

pub order_each : (stages : ℕ) (arcs : List SupplyArc) (f : Forest) → IsForest stages arcs f → HasEachOnce stages f.order
order_each stages arcs f forest = each_back stages f.order forest.walk.order.each_once

-- a parent is a stage
pub parent_is_stage : (stages : ℕ) (arcs : List SupplyArc) (f : Forest) → IsForest stages arcs f → (j : ℕ) → j < stages → get_or f.parent j 0 < stages
parent_is_stage stages arcs f forest = parent_low stages arcs (reverse f.order) f.parent forest.walk

-- a stage is a child exactly where it is in its parent's list

pub child_in_list : (stages : ℕ) (arcs : List SupplyArc) (f : Forest) → IsForest stages arcs f → (i j : ℕ) → j < stages → IsChildOf f.parent i j → Contains (get_or f.children i []) j
child_in_list stages arcs f forest i j low child =
    let i_low : i < stages = omega (arith, child.0, parent_is_stage stages arcs f forest j low) in
    (forest.children.each i i_low).all j low child

pub child_of_list : (stages : ℕ) (arcs : List SupplyArc) (f : Forest) → IsForest stages arcs f → (i j : ℕ) → i < stages → Contains (get_or f.children i []) j → IsChildOf f.parent i j
child_of_list stages arcs f forest i j low inside = (forest.children.each i low).only j inside

-- places in the order of the walk

same_place : (n : ℕ) (seen : List ℕ) → HasEachOnce n seen → (k m : ℕ) → k < length seen → m < length seen → get_or seen k 0 ≡ get_or seen m 0 → k ≡ m
same_place n seen each k m low high same = ⊎_elim
    (λ less. absurd (each.once k m 0 less high same))
    (λ past. ⊎_elim (λ more. absurd (each.once m k 0 more low (sym same))) (λ not_more. omega (arith, past, not_more)) (cases_lt m k))
    (cases_lt k m)

-- a stage is its own parent, or its parent stands before it
parent_before : (stages : ℕ) (arcs : List SupplyArc) (seen parent : List ℕ) → IsWalk stages arcs seen parent → (k m : ℕ) → k < length seen → m < length seen → get_or parent (get_or seen k 0) 0 ≡ get_or seen m 0 → m ≤ k
parent_before stages arcs seen parent walk k m low high is = ⊎_elim
    (λ root. let here = same_place stages seen walk.order.each_once m k high low (sym is ∙ root.1) in omega (arith, here))
    (λ child.
    let here = same_place stages seen walk.order.each_once m child.0 high child.2.place (sym is ∙ child.4) in
    omega (arith, here, child.3))
    (walk.parents k low)

-- children stand before their parents
pub children_first : (stages : ℕ) (arcs : List SupplyArc) (f : Forest) → IsForest stages arcs f → ChildrenFirst f
children_first stages arcs f forest k m low high is =
    let long = length-reverse f.order in
    let le = parent_before stages arcs (reverse f.order) f.parent forest.walk (length f.order - 1 - k) (length f.order - 1 - m) (omega (arith, long, low)) (omega (arith, long, high))
    (ap (λ v. get_or f.parent v 0) (sym (back_at f.order k low)) ∙ is ∙ back_at f.order m high) in
    omega (arith, le, low, high)

-- a rank falls from child to parent

-- a number for each stage that is less at its parent
pub record IsRanked (stages : ℕ) (parent : List ℕ) (rank : ℕ → ℕ) : Type 0 where
  pub low : (j : ℕ) → j < stages → get_or parent j 0 < stages
  pub falls : (j : ℕ) → j < stages → (get_or parent j 0 ≡ j) ⊎ (rank (get_or parent j 0) < rank j)

-- the place of a stage in the order of the walk
abbrev pub rank_in : List ℕ → ℕ → ℕ
rank_in seen j = position_or_len (λ x. x == j) seen

rank_at : (n : ℕ) (seen : List ℕ) → HasEachOnce n seen → (k : ℕ) → k < length seen → rank_in seen (get_or seen k 0) ≡ k
rank_at n seen each k inside =
    position_or_len_is (λ x. x == get_or seen k 0) seen k 0 (omega (arith, inside)) (λ s less. ne_eqb _ _ (each.once s k 0 less inside)) (λ h. eq-eqb _ _ refl)

walk_ranked : (stages : ℕ) (arcs : List SupplyArc) (seen parent : List ℕ) → IsWalk stages arcs seen parent → IsRanked stages parent (rank_in seen)
walk_ranked stages arcs seen parent walk = record {
  low = parent_low stages arcs seen parent walk;
  falls = λ j low.
      let at = place_of seen j (walk.order.each_once.each j low) in
      let up = place_of seen (get_or parent j 0) (walk.order.each_once.each (get_or parent j 0) (parent_low stages arcs seen parent walk j low)) in
      let le = parent_before stages arcs seen parent walk at.0 up.0 at.1.inside up.1.inside (ap (λ v. get_or parent v 0) at.1.is ∙ sym up.1.is) in
      let mine = ap (rank_in seen) (sym at.1.is) ∙ rank_at stages seen walk.order.each_once at.0 at.1.inside in
      let other = ap (rank_in seen) (sym up.1.is) ∙ rank_at stages seen walk.order.each_once up.0 up.1.inside in
      ⊎_elim
      (λ same. inl (sym up.1.is ∙ ap (λ v. get_or seen v 0) same ∙ at.1.is))
      (λ apart. inr (omega (arith, le, apart, mine, other)))
      (cases_eq up.0 at.0);
}

pub forest_ranked : (stages : ℕ) (arcs : List SupplyArc) (f : Forest) → IsForest stages arcs f → IsRanked stages f.parent (rank_in (reverse f.order))
forest_ranked stages arcs f forest = walk_ranked stages arcs (reverse f.order) f.parent forest.walk

-- a rank is below the number of stages
pub rank_low : (stages : ℕ) (arcs : List SupplyArc) (f : Forest) → IsForest stages arcs f → (j : ℕ) → j < stages → rank_in (reverse f.order) j < stages
rank_low stages arcs f forest j low =
    let at = place_of (reverse f.order) j (forest.walk.order.each_once.each j low) in
    let long = each_long stages (reverse f.order) forest.walk.order.each_once in
    omega (arith, ap (rank_in (reverse f.order)) (sym at.1.is) ∙ rank_at stages (reverse f.order) forest.walk.order.each_once at.0 at.1.inside, at.1.inside, long)

-- arcs

cases_kept : (parent : List ℕ) (a : SupplyArc) → IsKept parent a ⊎ (IsKept parent a → ⊥)
cases_kept parent a = ⊎_elim
    (λ up. inl (inl up))
    (λ not_up. ⊎_elim (λ down. inl (inr down)) (λ not_down. inr (λ kept. ⊎_elim not_up not_down kept)) (cases_eq (get_or parent a.customer 0) a.supplier))
    (cases_eq (get_or parent a.supplier 0) a.customer)

-- an arc is kept or dropped
pub kept_or_dropped : (stages : ℕ) (arcs : List SupplyArc) (f : Forest) → IsForest stages arcs f → (a : ℕ) → a < length arcs → IsKept f.parent (arc_in arcs a) ⊎ Contains f.dropped a
kept_or_dropped stages arcs f forest a inside = ⊎_elim
    (λ kept. inl kept)
    (λ left_out. inr (forest.dropped.all a inside left_out))
    (cases_kept f.parent (arc_in arcs a))

-- where no arc is dropped, every arc joins a parent and its child
pub all_kept : (stages : ℕ) (arcs : List SupplyArc) (f : Forest) → IsForest stages arcs f → (let none : List ℕ = [] in f.dropped ≡ none) → All (IsKept f.parent) arcs
all_kept stages arcs f forest none a d inside = ⊎_elim
    (λ kept. subst (λ (v : SupplyArc). IsKept f.parent v) (get_or_default arcs a no_arc d inside) kept)
    (λ dropped. absurd (omega (arith, dropped.1, ap length none)))
    (kept_or_dropped stages arcs f forest a inside)

-- a child and its parent are neighbours
pub child_joined : (stages : ℕ) (arcs : List SupplyArc) (f : Forest) → IsForest stages arcs f → (i j : ℕ) → j < stages → IsChildOf f.parent i j → AreNeighbours arcs i j
child_joined stages arcs f forest i j low child =
    let seen = reverse f.order in
    let at = place_of seen j (forest.walk.order.each_once.each j low) in
    let up : get_or f.parent (get_or (reverse f.order) at.0 0) 0 ≡ i = ap (λ v. get_or f.parent v 0) at.1.is ∙ child.0 in
    ⊎_elim
    (λ root. absurd (child.1 (sym up ∙ root.1 ∙ at.1.is)))
    (λ c.
    let tie = c.2 in
    (c.1, tie.arc, subst (λ v. Joins (arc_in arcs c.1) v j) (sym c.4 ∙ up) (subst (λ v. Joins (arc_in arcs c.1) (get_or (reverse f.order) c.0 0) v) at.1.is tie.joins)))
    (forest.walk.parents at.0 at.1.inside)

-- exactly one arc joins a child and its parent
pub one_tie : (n : Net) (f : Forest) → IsNetwork n → IsForest (length n.stages) n.arcs f → (i j : ℕ) → j < length n.stages → IsChildOf f.parent i j
    → (a : ℕ) × (a < length n.arcs) × Joins (arc_in n.arcs a) i j × ((b : ℕ) → b < length n.arcs → Joins (arc_in n.arcs b) i j → b ≡ a)
one_tie n f valid forest i j low child =
    let joined = child_joined (length n.stages) n.arcs f forest i j low child in
    (joined.0, joined.1, joined.2, λ b inside joins. one_arc n valid b joined.0 i j inside joined.1 joins joined.2)

-- a child is a supplier or a customer of its parent, and not both
pub one_side : (n : Net) (f : Forest) → IsNetwork n → IsForest (length n.stages) n.arcs f → HasOneSide n.arcs f
one_side n f valid forest i j inside child =
    let low : j < length n.stages = omega (arith, inside, forest.walk.long) in
    let i_low : i < length n.stages = omega (arith, child.0, parent_is_stage (length n.stages) n.arcs f forest j low) in
    let joined = child_joined (length n.stages) n.arcs f forest i j low child in
    ⊎_elim
    (λ down. inr ((joined.0, joined.1, down.0, down.1), λ up. one_way n valid i j i_low (joined.0, joined.1, down.0, down.1) up))
    (λ up. inl ((joined.0, joined.1, up.0, up.1), λ down. one_way n valid i j i_low down (joined.0, joined.1, up.0, up.1)))
    joined.2
