-- Which arcs are bridges, by the tops that are left once all dropped arcs are merged.
use Rattle.std.proofs.Common.{ℕ, ◌≡◌, ◌≢◌, ◌<◌, List, length, get_or, reverse, refl, sym, ap, ◌∙◌, subst, inl, inr, ⊎_elim, arith}
use Rattle.std.specs.Prelude.{◌↔◌}
use Rattle.service_model.specs.declared.stage.SupplyArc.{SupplyArc}
use Rattle.service_model.specs.Net.{Net, arc_in}
use Rattle.service_model.specs.Forests.{Joins}
use Rattle.tree_order.specs.declared.forest.Forest.{Forest}
use Rattle.cluster_split.specs.Clusters.{IsBridge}
use Rattle.cluster_split.specs.Tops.{Reaches, IsTop, SameTree}
use Rattle.cluster_split.specs.Places.{AreMerged}
use Rattle.cluster_split.proofs.ReachFacts.{reach_not, reach_step, reach_le, reach_on, one_top, above_on}
use Rattle.cluster_split.proofs.JoinFacts.{Linked, joins_back, linked_one, linked_trans, linked_back, across_all}
use Rattle.cluster_split.proofs.TreeFacts.{IsLaid, IsTieOf, seen_long, stage_here, place_here, one_place, parent_low, up_here, up_falls, same_tree, tie_of, one_child, tie_or_dropped, dropped_apart, way_joins}

-- the whole: the forest is laid out, and all dropped arcs are merged
pub record IsWhole (n : Net) (f : Forest) (place up own tops : List ℕ) : Type 0 where
  pub laid : IsLaid n f place up
  pub alone : (k : ℕ) → k < length up → IsTop own k
  pub merged : AreMerged up place n.arcs f.dropped (length f.dropped) own tops

-- stage x stands at or below the top h
abbrev pub Below : List ℕ → List ℕ → ℕ → ℕ → Type 0
Below place up h x = Reaches up (get_or place x 0) h

-- an arc that is not that of the top h has both ends below it, or none
pub arc_below : (n : Net) (f : Forest) (place up own tops : List ℕ) → IsWhole n f place up own tops → (h : ℕ) → IsTop tops h → (a : ℕ) → a < length n.arcs
    → ((x : ℕ) → x < length n.stages → get_or place x 0 ≡ h → get_or f.parent x 0 ≢ x → Joins (arc_in n.arcs a) (get_or f.parent x 0) x → ⊥)
    → Below place up h (arc_in n.arcs a).supplier ↔ Below place up h (arc_in n.arcs a).customer
arc_below n f place up own tops whole h top a inside other = ⊎_elim
    (λ c.
    let x = c.0 in
    let next = up_here n f place up whole.laid c.0 c.1 in
    let down : Below place up h c.0 → Below place up h (get_or f.parent c.0 0) =
    λ r. subst (λ v. Reaches up v h) next (reach_on up (get_or place c.0 0) h (λ is. other c.0 c.1 is c.2 c.3) r) in
    let up_to : Below place up h (get_or f.parent c.0 0) → Below place up h c.0 =
    λ r. reach_step up (get_or place c.0 0) h (subst (λ v. Reaches up v h) (sym next) r) in
    ⊎_elim
    (λ ends. (
      λ r. subst (Below place up h) (sym ends.1) (up_to (subst (Below place up h) ends.0 r)),
      λ r. subst (Below place up h) (sym ends.0) (down (subst (Below place up h) ends.1 r)),
    ))
    (λ ends. (
      λ r. subst (Below place up h) (sym ends.1) (down (subst (Below place up h) ends.0 r)),
      λ r. subst (Below place up h) (sym ends.0) (up_to (subst (Below place up h) ends.1 r)),
    ))
    c.3)
    (λ d. subst (λ v. Below place up h (arc_in n.arcs v).supplier ↔ Below place up h (arc_in n.arcs v).customer) d.2 (whole.merged.joined d.0 d.1 h top))
    (tie_or_dropped n f place up whole.laid a inside)

-- the ends of a tie are joined, so where they are joined by other arcs it is no bridge
unbridged : (arcs : List SupplyArc) (a x y : ℕ) → Joins (arc_in arcs a) x y → Linked (λ b. b ≢ a) arcs x y → IsBridge arcs a → ⊥
unbridged arcs a x y (inl ends) joined bridge =
    let there = subst (λ v. Linked (λ b. b ≢ a) arcs v (arc_in arcs a).customer) (sym ends.0) (subst (λ v. Linked (λ b. b ≢ a) arcs x v) (sym ends.1) joined) in
    bridge there.0 there.1
unbridged arcs a x y (inr ends) joined bridge =
    let back = linked_back (λ b. b ≢ a) arcs x y joined in
    let there = subst (λ v. Linked (λ b. b ≢ a) arcs v (arc_in arcs a).customer) (sym ends.0) (subst (λ v. Linked (λ b. b ≢ a) arcs y v) (sym ends.1) back) in
    bridge there.0 there.1

-- and the other way round
pub bridge_from : (arcs : List SupplyArc) (a x y : ℕ) → Joins (arc_in arcs a) x y → (Linked (λ b. b ≢ a) arcs x y → ⊥) → IsBridge arcs a
bridge_from arcs a x y (inl ends) apart m joined =
    apart (subst (λ v. Linked (λ b. b ≢ a) arcs v y) ends.0 (subst (λ v. Linked (λ b. b ≢ a) arcs (arc_in arcs a).supplier v) ends.1 (m, joined)))
bridge_from arcs a x y (inr ends) apart m joined =
    apart (linked_back (λ b. b ≢ a) arcs y x (subst (λ v. Linked (λ b. b ≢ a) arcs v x) ends.0 (subst (λ v. Linked (λ b. b ≢ a) arcs (arc_in arcs a).supplier v) ends.1 (m, joined))))

-- the arc of a stage whose place is a top is a bridge
pub top_bridge : (n : Net) (f : Forest) (place up own tops : List ℕ) → IsWhole n f place up own tops → (x : ℕ) → x < length n.stages → get_or f.parent x 0 ≢ x → IsTop tops (get_or place x 0)
    → (a : ℕ) → a < length n.arcs → Joins (arc_in n.arcs a) (get_or f.parent x 0) x → IsBridge n.arcs a
top_bridge n f place up own tops whole x low apart top a inside joins =
    bridge_from n.arcs a (get_or f.parent x 0) x joins (λ joined.
    let laid = whole.laid in
    let tie = tie_of n f place up laid x low apart in
    let back = linked_back (λ b. b ≢ a) n.arcs (get_or f.parent x 0) x joined in
    let far = across_all (Below place up (get_or place x 0)) (λ b. b ≢ a) n.arcs
    (λ b inside' not_a. arc_below n f place up own tops whole (get_or place x 0) top b inside' (λ z z_low is z_apart z_joins.
    let same = one_place n f place up laid z x z_low low is in
    let mine = subst (λ v. Joins (arc_in n.arcs b) (get_or f.parent v 0) v) same z_joins in
    not_a (tie.1.only b inside' mine ∙ sym (tie.1.only a inside joins))))
    back.0 x (get_or f.parent x 0) back.1 (reach_not up (get_or place x 0)) in
    let falls = up_falls n f place up laid in
    let le = reach_le up (get_or place (get_or f.parent x 0) 0) (get_or place x 0) falls far in
    let next = up_here n f place up laid x low in
    apart (one_place n f place up laid (get_or f.parent x 0) x (parent_low n f place up laid x low) low (omega (arith, le, next, falls (get_or place x 0)))))

-- what a dropped arc parts: stage x stands above one of its ends alone

-- the tie of another stage is another arc
other_tie : (n : Net) (f : Forest) (place up : List ℕ) → IsLaid n f place up → (a x z c : ℕ) → x < length n.stages → z < length n.stages → Joins (arc_in n.arcs a) (get_or f.parent x 0) x → IsTieOf n.arcs f.parent z c
    → (get_or place z 0 ≡ get_or place x 0 → ⊥) → c ≢ a
other_tie n f place up laid a x z c low z_low joins tie apart same =
    apart (ap (λ v. get_or place v 0) (one_child n f place up laid (arc_in n.arcs a) z x z_low low (subst (λ v. Joins (arc_in n.arcs v) (get_or f.parent z 0) z) same tie.joins) joins))

-- a stage below x is joined to it without x's tie
way_below : (n : Net) (f : Forest) (place up : List ℕ) → IsLaid n f place up → (a x p : ℕ) → x < length n.stages → p < length n.stages → Joins (arc_in n.arcs a) (get_or f.parent x 0) x
    → Reaches up (get_or place p 0) (get_or place x 0) → Linked (λ b. b ≢ a) n.arcs p x
way_below n f place up laid a x p low p_low joins r =
    way_joins n f place up laid (λ b. b ≢ a) p x p_low low r (λ z z_low to past child c tie. other_tie n f place up laid a x z c low z_low joins tie (λ is. omega (arith, past, is)))

-- a stage that does not stand below x is joined to any above it without x's tie
way_past : (n : Net) (f : Forest) (place up : List ℕ) → IsLaid n f place up → (a x q y : ℕ) → x < length n.stages → q < length n.stages → y < length n.stages → Joins (arc_in n.arcs a) (get_or f.parent x 0) x
    → (Reaches up (get_or place q 0) (get_or place x 0) → ⊥) → Reaches up (get_or place q 0) (get_or place y 0) → Linked (λ b. b ≢ a) n.arcs q y
way_past n f place up laid a x q y low q_low y_low joins apart r =
    way_joins n f place up laid (λ b. b ≢ a) q y q_low y_low r
    (λ z z_low to past child c tie. other_tie n f place up laid a x z c low z_low joins tie (λ is. apart (subst (λ v. Reaches up (get_or place q 0) v) is to)))

-- x is no root
parted_child : (n : Net) (f : Forest) (place up : List ℕ) → IsLaid n f place up → (x k m : ℕ) → x < length n.stages → SameTree up k m → Reaches up k (get_or place x 0) → (Reaches up m (get_or place x 0) → ⊥) → get_or f.parent x 0 ≢ x
parted_child n f place up laid x k m low (r, root, to, to') one other is =
    let top : IsTop up (get_or place x 0) = up_here n f place up laid x low ∙ ap (λ v. get_or place v 0) is in
    other (subst (λ v. Reaches up m v) (one_top up k r (get_or place x 0) root top to one) to')

-- x and its parent are joined without x's tie: over the dropped arc, and up to the root on both sides
around : (n : Net) (f : Forest) (place up : List ℕ) → IsLaid n f place up → (d i x p q : ℕ) → d < length n.arcs → i < length f.dropped → get_or f.dropped i 0 ≡ d → Joins (arc_in n.arcs d) p q
    → x < length n.stages → p < length n.stages → q < length n.stages → Reaches up (get_or place p 0) (get_or place x 0) → (Reaches up (get_or place q 0) (get_or place x 0) → ⊥)
    → (get_or f.parent x 0 ≢ x) × ((a : ℕ) → a < length n.arcs → Joins (arc_in n.arcs a) (get_or f.parent x 0) x → IsBridge n.arcs a → ⊥)
around n f place up laid d i x p q inside in_list is ends low p_low q_low one other =
    let tree = same_tree n f place up laid d p q inside p_low q_low ends in
    let child = parted_child n f place up laid x (get_or place p 0) (get_or place q 0) low tree one other in (
      child,
      λ a a_inside joins.
          let falls = up_falls n f place up laid in
          let next = up_here n f place up laid x low in
          let px = stage_here n f place up laid x low in
          let r_low : tree.0 < length n.stages = omega (arith, reach_le up (get_or place p 0) tree.0 falls tree.2, (stage_here n f place up laid p p_low).0) in
          let root = place_here n f place up laid tree.0 r_low in
          let y = get_or (reverse f.order) tree.0 0 in
          let not_root : IsTop up (get_or place x 0) → ⊥ = λ top. child (one_place n f place up laid (get_or f.parent x 0) x (parent_low n f place up laid x low) low (sym next ∙ top)) in
          let up_r : Reaches up (get_or place (get_or f.parent x 0) 0) tree.0 = subst (λ v. Reaches up v tree.0) next (above_on up (get_or place p 0) (get_or place x 0) tree.0 tree.1 not_root one tree.2) in
          let not_d : d ≢ a = λ same. dropped_apart n f place up laid i x in_list (subst (λ v. Joins (arc_in n.arcs v) (get_or f.parent x 0) x) (sym (is ∙ same)) joins) in
          let past : Reaches up (get_or place (get_or f.parent x 0) 0) (get_or place x 0) → ⊥ =
          λ r. not_root (omega (arith, reach_le up (get_or place (get_or f.parent x 0) 0) (get_or place x 0) falls r, next, falls (get_or place x 0))) in
          let one_way = linked_back (λ b. b ≢ a) n.arcs p x (way_below n f place up laid a x p low p_low joins one) in
          let over = linked_one (λ b. b ≢ a) n.arcs p q (d, inside, not_d, ends) in
          let up_q = way_past n f place up laid a x q (get_or (reverse f.order) tree.0 0) low q_low root.0 joins other (subst (λ v. Reaches up (get_or place q 0) v) (sym root.1) tree.3) in
          let up_x = way_past n f place up laid a x (get_or f.parent x 0) (get_or (reverse f.order) tree.0 0) low (parent_low n f place up laid x low) root.0 joins past (subst (λ v. Reaches up (get_or place (get_or f.parent x 0) 0) v) (sym root.1) up_r) in
          let there = linked_trans (λ b. b ≢ a) n.arcs x q (get_or (reverse f.order) tree.0 0) (linked_trans (λ b. b ≢ a) n.arcs x p q one_way over) up_q in
          let whole = linked_trans (λ b. b ≢ a) n.arcs x (get_or (reverse f.order) tree.0 0) (get_or f.parent x 0) there (linked_back (λ b. b ≢ a) n.arcs (get_or f.parent x 0) (get_or (reverse f.order) tree.0 0) up_x) in
          unbridged n.arcs a x (get_or f.parent x 0) (joins_back (arc_in n.arcs a) (get_or f.parent x 0) x joins) whole,
    )

-- a stage whose place is no top is no root, and its arc no bridge
pub covered : (n : Net) (f : Forest) (place up own tops : List ℕ) → IsWhole n f place up own tops → (x : ℕ) → x < length n.stages → (IsTop tops (get_or place x 0) → ⊥)
    → (get_or f.parent x 0 ≢ x) × ((a : ℕ) → a < length n.arcs → Joins (arc_in n.arcs a) (get_or f.parent x 0) x → IsBridge n.arcs a → ⊥)
covered n f place up own tops whole x low off =
    let laid = whole.laid in
    let here = stage_here n f place up laid x low in
    let long = laid.ups.long in
    let long' = seen_long n f place up laid in
    let only = whole.merged.only (get_or place x 0) (whole.alone (get_or place x 0) (omega (arith, here.0, long, long'))) off in
    let d = get_or f.dropped only.0 0 in
    let inside : get_or f.dropped only.0 0 < length n.arcs = laid.forest.dropped.low only.0 0 only.1 in
    let arc = laid.valid.arcs (get_or f.dropped only.0 0) inside in
    ⊎_elim
    (λ one. around n f place up laid d only.0 x (arc_in n.arcs d).supplier (arc_in n.arcs d).customer inside only.1 refl (inl (refl, refl)) low arc.supplier arc.customer one.0 one.1)
    (λ other. around n f place up laid d only.0 x (arc_in n.arcs d).customer (arc_in n.arcs d).supplier inside only.1 refl (inr (refl, refl)) low arc.customer arc.supplier other.0 other.1)
    only.2

-- a dropped arc is no bridge: the forest joins its ends
pub dropped_unbridged : (n : Net) (f : Forest) (place up : List ℕ) → IsLaid n f place up → (i : ℕ) → i < length f.dropped → IsBridge n.arcs (get_or f.dropped i 0) → ⊥
dropped_unbridged n f place up laid i in_list bridge =
    let d = get_or f.dropped i 0 in
    let inside : get_or f.dropped i 0 < length n.arcs = laid.forest.dropped.low i 0 in_list in
    let arc = laid.valid.arcs (get_or f.dropped i 0) inside in
    let p = (arc_in n.arcs d).supplier in
    let q = (arc_in n.arcs d).customer in
    let falls = up_falls n f place up laid in
    let tree = same_tree n f place up laid d p q inside arc.supplier arc.customer (inl (refl, refl)) in
    let root = place_here n f place up laid tree.0 (omega (arith, reach_le up (get_or place p 0) tree.0 falls tree.2, (stage_here n f place up laid p arc.supplier).0)) in
    let y = get_or (reverse f.order) tree.0 0 in
    let kept : (z c : ℕ) → IsTieOf n.arcs f.parent z c → c ≢ d = λ z c tie same. dropped_apart n f place up laid i z in_list (subst (λ v. Joins (arc_in n.arcs v) (get_or f.parent z 0) z) same tie.joins) in
    let one = way_joins n f place up laid (λ b. b ≢ d) p y arc.supplier root.0 (subst (λ v. Reaches up (get_or place p 0) v) (sym root.1) tree.2) (λ z z_low to past child c tie. kept z c tie) in
    let two = way_joins n f place up laid (λ b. b ≢ d) q y arc.customer root.0 (subst (λ v. Reaches up (get_or place q 0) v) (sym root.1) tree.3) (λ z z_low to past child c tie. kept z c tie) in
    let whole = linked_trans (λ b. b ≢ d) n.arcs p y q one (linked_back (λ b. b ≢ d) n.arcs q y two) in
    bridge whole.0 whole.1
