-- The forest of a network by the places of its stages.
use Rattle.std.proofs.Common.{ℕ, zero, suc, ◌≡◌, ◌≢◌, ◌<◌, List, length, get_or, reverse, refl, sym, ap, ◌∙◌, subst, inl, inr, ⊎_elim, arith}
use Rattle.std.specs.Prelude.{◌⊎◌}
use Rattle.std.proofs.lemmas.Bool.{cases_eq, cases_lt}
use Rattle.std.proofs.lemmas.List.{get_or_default}
use Rattle.service_model.specs.declared.stage.SupplyArc.{SupplyArc}
use Rattle.service_model.specs.Net.{Net, arc_in, no_arc}
use Rattle.service_model.specs.Networks.{IsNetwork}
use Rattle.service_model.specs.Forests.{Joins, SameGroup, IsFirstOfGroup, IsKept}
use Rattle.tree_order.specs.declared.forest.Forest.{Forest}
use Rattle.tree_order.specs.Forest.{IsForest}
use Rattle.tree_order.proofs.ForestLaws.{each_long, parent_is_stage, kept_or_dropped, one_tie}
use Rattle.cluster_split.specs.Tops.{reached, Reaches, Falls, IsTop, SameTree}
use Rattle.cluster_split.specs.Places.{ArePlaces, AreUps}
use Rattle.cluster_split.specs.declared.places.Layout.{Layout}
use Rattle.cluster_split.specs.Layouts.{IsLayout, CanMerge}
use Rattle.cluster_split.proofs.ReachFacts.{falls_from, reach_not, reach_step, reach_le, top_alone}
use Rattle.cluster_split.proofs.JoinFacts.{Linked, joins_back, linked_one, linked_trans}

-- the forest of a network, the places of its stages, and where each leads
pub record IsLaid (n : Net) (f : Forest) (place up : List ℕ) : Type 0 where
  pub valid : IsNetwork n
  pub forest : IsForest (length n.stages) n.arcs f
  pub places : ArePlaces (reverse f.order) place
  pub ups : AreUps (reverse f.order) f.parent place up

pub laid_out : (n : Net) (f : Forest) (l : Layout) → IsNetwork n → IsForest (length n.stages) n.arcs f → IsLayout f l → IsLaid n f l.place l.up
laid_out n f l valid forest layout = record { valid = valid; forest = forest; places = layout.places; ups = layout.ups }

pub seen_long : (n : Net) (f : Forest) (place up : List ℕ) → IsLaid n f place up → length (reverse f.order) ≡ length n.stages
seen_long n f place up laid = each_long (length n.stages) (reverse f.order) laid.forest.walk.order.each_once

pub up_long : (n : Net) (f : Forest) (place up : List ℕ) → IsLaid n f place up → length up ≡ length n.stages
up_long n f place up laid = laid.ups.long ∙ seen_long n f place up laid

-- a stage stands at its place

pub stage_here : (n : Net) (f : Forest) (place up : List ℕ) → IsLaid n f place up → (x : ℕ) → x < length n.stages → (get_or place x 0 < length n.stages) × (get_or (reverse f.order) (get_or place x 0) 0 ≡ x)
stage_here n f place up laid x low =
    let there = laid.forest.walk.order.each_once.each x low in
    let is : get_or (reverse f.order) there.0 0 ≡ x = get_or_default (reverse f.order) there.0 0 x there.1 ∙ there.2 in
    let at : get_or place x 0 ≡ there.0 = ap (λ v. get_or place v 0) (sym is) ∙ laid.places.each there.0 there.1 in
    (omega (arith, at, there.1, seen_long n f place up laid), ap (λ v. get_or (reverse f.order) v 0) at ∙ is)

pub place_here : (n : Net) (f : Forest) (place up : List ℕ) → IsLaid n f place up → (k : ℕ) → k < length n.stages → (get_or (reverse f.order) k 0 < length n.stages) × (get_or place (get_or (reverse f.order) k 0) 0 ≡ k)
place_here n f place up laid k low =
    let inside : k < length (reverse f.order) = omega (arith, low, seen_long n f place up laid) in
    (laid.forest.walk.order.each_once.low k 0 inside, laid.places.each k inside)

pub one_place : (n : Net) (f : Forest) (place up : List ℕ) → IsLaid n f place up → (x y : ℕ) → x < length n.stages → y < length n.stages → get_or place x 0 ≡ get_or place y 0 → x ≡ y
one_place n f place up laid x y low high same =
    sym (stage_here n f place up laid x low).1 ∙ ap (λ v. get_or (reverse f.order) v 0) same ∙ (stage_here n f place up laid y high).1

pub parent_low : (n : Net) (f : Forest) (place up : List ℕ) → IsLaid n f place up → (x : ℕ) → x < length n.stages → get_or f.parent x 0 < length n.stages
parent_low n f place up laid x low = parent_is_stage (length n.stages) n.arcs f laid.forest x low

-- its place leads to its parent's
pub up_here : (n : Net) (f : Forest) (place up : List ℕ) → IsLaid n f place up → (x : ℕ) → x < length n.stages → get_or up (get_or place x 0) 0 ≡ get_or place (get_or f.parent x 0) 0
up_here n f place up laid x low =
    let here = stage_here n f place up laid x low in
    laid.ups.each (get_or place x 0) (omega (arith, here.0, seen_long n f place up laid)) ∙ ap (λ v. get_or place (get_or f.parent v 0) 0) here.1

-- the root of each place

pub record HasRoot (arcs : List SupplyArc) (seen up : List ℕ) (k r : ℕ) : Type 0 where
  pub first : IsFirstOfGroup arcs seen r
  pub top : IsTop up r
  pub above : Reaches up k r
  pub down : SameGroup arcs (get_or seen r 0) (get_or seen k 0)
  pub on : (x : ℕ) → SameGroup arcs x (get_or seen k 0) → SameGroup arcs x (get_or seen r 0)

root_below : (n : Net) (f : Forest) (place up : List ℕ) → IsLaid n f place up → (fuel k : ℕ) → k < fuel → k < length (reverse f.order) → (r : ℕ) × HasRoot n.arcs (reverse f.order) up k r
root_below n f place up laid zero k less inside = absurd (omega arith)
root_below n f place up laid (suc fuel) k less inside = ⊎_elim
    (λ root. (
      k,
      record {
        first = root.0;
        top = laid.ups.each k inside ∙ ap (λ v. get_or place v 0) root.1 ∙ laid.places.each k inside;
        above = reach_not up k;
        down = (0, refl);
        on = λ x h. h;
      },
    ))
    (λ c.
    let tie = c.2 in
    let here : get_or up k 0 ≡ c.0 = laid.ups.each k inside ∙ ap (λ v. get_or place v 0) c.4 ∙ laid.places.each c.0 tie.place in
    let rest = root_below n f place up laid fuel c.0 (omega (arith, less, c.3)) tie.place in (
      rest.0,
      record {
        first = rest.1.first;
        top = rest.1.top;
        above = reach_step up k rest.0 (subst (λ v. Reaches up v rest.0) (sym here) rest.1.above);
        down = (suc rest.1.down.0, (get_or (reverse f.order) c.0 0, rest.1.down.1, (c.1, tie.arc, tie.joins)));
        on = λ x h. rest.1.on x (suc h.0, (get_or (reverse f.order) k 0, h.1, (c.1, tie.arc, joins_back (arc_in n.arcs c.1) (get_or (reverse f.order) c.0 0) (get_or (reverse f.order) k 0) tie.joins)));
      },
    ))
    (laid.forest.walk.parents k inside)

-- no place leads to a later one
pub up_falls : (n : Net) (f : Forest) (place up : List ℕ) → IsLaid n f place up → Falls up
up_falls n f place up laid = falls_from up (λ k within.
    let inside : k < length (reverse f.order) = omega (arith, within, laid.ups.long) in
    ⊎_elim
    (λ root. omega (arith, laid.ups.each k inside ∙ ap (λ v. get_or place v 0) root.1 ∙ laid.places.each k inside))
    (λ c. omega (arith, laid.ups.each k inside ∙ ap (λ v. get_or place v 0) c.4 ∙ laid.places.each c.0 c.2.place, c.3))
    (laid.forest.walk.parents k inside))

one_root : (arcs : List SupplyArc) (seen up : List ℕ) (k m r s : ℕ) → HasRoot arcs seen up k r → HasRoot arcs seen up m s → SameGroup arcs (get_or seen r 0) (get_or seen s 0) → SameGroup arcs (get_or seen s 0) (get_or seen r 0) → r ≡ s
one_root arcs seen up k m r s one two there back = ⊎_elim
    (λ less. absurd (two.first r less there))
    (λ past. ⊎_elim (λ more. absurd (one.first s more back)) (λ not_more. omega (arith, past, not_more)) (cases_lt s r))
    (cases_lt r s)

-- the ends of an arc are of one tree
pub same_tree : (n : Net) (f : Forest) (place up : List ℕ) → IsLaid n f place up → (a x y : ℕ) → a < length n.arcs → x < length n.stages → y < length n.stages → Joins (arc_in n.arcs a) x y → SameTree up (get_or place x 0) (get_or place y 0)
same_tree n f place up laid a x y inside low high joins =
    let seen = reverse f.order in
    let long = seen_long n f place up laid in
    let px = stage_here n f place up laid x low in
    let py = stage_here n f place up laid y high in
    let one = root_below n f place up laid (suc (get_or place x 0)) (get_or place x 0) (omega arith) (omega (arith, px.0, long)) in
    let two = root_below n f place up laid (suc (get_or place y 0)) (get_or place y 0) (omega arith) (omega (arith, py.0, long)) in
    let joins' : Joins (arc_in n.arcs a) (get_or (reverse f.order) (get_or place x 0) 0) (get_or (reverse f.order) (get_or place y 0) 0) =
    subst (λ v. Joins (arc_in n.arcs a) v (get_or (reverse f.order) (get_or place y 0) 0)) (sym px.1) (subst (λ v. Joins (arc_in n.arcs a) x v) (sym py.1) joins) in
    let there = two.1.on (get_or seen one.0 0) (suc one.1.down.0, (get_or seen (get_or place x 0) 0, one.1.down.1, (a, inside, joins'))) in
    let back = one.1.on (get_or seen two.0 0) (suc two.1.down.0, (get_or seen (get_or place y 0) 0, two.1.down.1, (a, inside, joins_back (arc_in n.arcs a) (get_or seen (get_or place x 0) 0) (get_or seen (get_or place y 0) 0) joins'))) in
    let same = one_root n.arcs seen up (get_or place x 0) (get_or place y 0) one.0 two.0 one.1 two.1 there back in
    (one.0, one.1.top, one.1.above, subst (λ v. Reaches up (get_or place y 0) v) (sym same) two.1.above)

-- the dropped arcs can be merged
pub can_merge : (n : Net) (f : Forest) (place up : List ℕ) → IsLaid n f place up → CanMerge up place n.arcs f.dropped
can_merge n f place up laid =
    let long = seen_long n f place up laid in
    record {
      falls = up_falls n f place up laid;
      places = λ x d inside.
          let low : x < length n.stages = omega (arith, inside, laid.places.long, long) in
          omega (arith, (stage_here n f place up laid x low).0, get_or_default place x d 0 inside, laid.ups.long, long);
      ends = λ a d inside.
          let arc = laid.valid.arcs a inside in
          let same = get_or_default n.arcs a no_arc d inside in (
            subst (λ (v : SupplyArc). v.supplier < length place) same (omega (arith, arc.supplier, laid.places.long, long)),
            subst (λ (v : SupplyArc). v.customer < length place) same (omega (arith, arc.customer, laid.places.long, long)),
          );
      numbers = laid.forest.dropped.low;
      trees = λ i low.
          let inside : get_or f.dropped i 0 < length n.arcs = laid.forest.dropped.low i 0 low in
          let arc = laid.valid.arcs (get_or f.dropped i 0) inside in
          same_tree n f place up laid (get_or f.dropped i 0) (arc_in n.arcs (get_or f.dropped i 0)).supplier (arc_in n.arcs (get_or f.dropped i 0)).customer inside arc.supplier arc.customer (inl (refl, refl));
    }

-- the arcs of the forest

-- arc a joins stage x, which is no root, and its parent, and no other arc does
pub record IsTieOf (arcs : List SupplyArc) (parent : List ℕ) (x a : ℕ) : Type 0 where
  pub inside : a < length arcs
  pub joins : Joins (arc_in arcs a) (get_or parent x 0) x
  pub only : (b : ℕ) → b < length arcs → Joins (arc_in arcs b) (get_or parent x 0) x → b ≡ a

pub tie_of : (n : Net) (f : Forest) (place up : List ℕ) → IsLaid n f place up → (x : ℕ) → x < length n.stages → get_or f.parent x 0 ≢ x → (a : ℕ) × IsTieOf n.arcs f.parent x a
tie_of n f place up laid x low apart =
    let one = one_tie n f laid.valid laid.forest (get_or f.parent x 0) x low (refl, apart) in
    (one.0, record { inside = one.1; joins = one.2; only = one.3 })

-- a tie is kept
pub tie_kept : (parent : List ℕ) (a : SupplyArc) (x : ℕ) → Joins a (get_or parent x 0) x → IsKept parent a
tie_kept parent a x (inl ends) = inr (ap (λ v. get_or parent v 0) ends.1 ∙ sym ends.0)
tie_kept parent a x (inr ends) = inl (ap (λ v. get_or parent v 0) ends.0 ∙ sym ends.1)

-- two stages that are each the other's parent are one
crossed : (n : Net) (f : Forest) (place up : List ℕ) → IsLaid n f place up → (x y : ℕ) → x < length n.stages → y < length n.stages → get_or f.parent x 0 ≡ y → get_or f.parent y 0 ≡ x → x ≡ y
crossed n f place up laid x y low high is is' =
    let falls = up_falls n f place up laid in
    let one = up_here n f place up laid x low ∙ ap (λ v. get_or place v 0) is in
    let two = up_here n f place up laid y high ∙ ap (λ v. get_or place v 0) is' in
    one_place n f place up laid x y low high (omega (arith, one, two, falls (get_or place x 0), falls (get_or place y 0)))

-- an arc is a tie of two stages only where they are one
pub one_child : (n : Net) (f : Forest) (place up : List ℕ) → IsLaid n f place up → (a : SupplyArc) (x y : ℕ) → x < length n.stages → y < length n.stages → Joins a (get_or f.parent x 0) x → Joins a (get_or f.parent y 0) y → x ≡ y
one_child n f place up laid a x y low high (inl ends) (inl ends') = sym ends.1 ∙ ends'.1
one_child n f place up laid a x y low high (inr ends) (inr ends') = sym ends.0 ∙ ends'.0
one_child n f place up laid a x y low high (inl ends) (inr ends') = crossed n f place up laid x y low high (sym ends.0 ∙ ends'.0) (sym ends'.1 ∙ ends.1)
one_child n f place up laid a x y low high (inr ends) (inl ends') = crossed n f place up laid x y low high (sym ends.1 ∙ ends'.1) (sym ends'.0 ∙ ends.0)

-- an arc is a tie, or dropped
pub tie_or_dropped : (n : Net) (f : Forest) (place up : List ℕ) → IsLaid n f place up → (a : ℕ) → a < length n.arcs
    → ((x : ℕ) × (x < length n.stages) × (get_or f.parent x 0 ≢ x) × Joins (arc_in n.arcs a) (get_or f.parent x 0) x) ⊎ ((i : ℕ) × (i < length f.dropped) × (get_or f.dropped i 0 ≡ a))
tie_or_dropped n f place up laid a inside =
    let arc = laid.valid.arcs a inside in
    ⊎_elim
    (λ kept. ⊎_elim
    (λ is. inl ((arc_in n.arcs a).supplier, arc.supplier, (λ bad. arc.apart (sym bad ∙ is)), inr (refl, sym is)))
    (λ is. inl ((arc_in n.arcs a).customer, arc.customer, (λ bad. arc.apart (sym is ∙ bad)), inl (sym is, refl)))
    kept)
    (λ out. inr (out.0, out.1, get_or_default f.dropped out.0 0 a out.1 ∙ out.2))
    (kept_or_dropped (length n.stages) n.arcs f laid.forest a inside)

-- no dropped arc is a tie
pub dropped_apart : (n : Net) (f : Forest) (place up : List ℕ) → IsLaid n f place up → (i x : ℕ) → i < length f.dropped → Joins (arc_in n.arcs (get_or f.dropped i 0)) (get_or f.parent x 0) x → ⊥
dropped_apart n f place up laid i x low joins =
    laid.forest.dropped.only (get_or f.dropped i 0) (i, low, get_or_default f.dropped i (get_or f.dropped i 0) 0 low) (tie_kept f.parent (arc_in n.arcs (get_or f.dropped i 0)) x joins)

-- the way up

-- the arc of each stage on the way from stage w up to place t is of a kind
abbrev pub WayIs : (ℕ → Type 0) → Net → Forest → List ℕ → List ℕ → ℕ → ℕ → Type 0
WayIs P n f place up w t =
    (z : ℕ) → z < length n.stages → Reaches up (get_or place w 0) (get_or place z 0) → t < get_or place z 0 → get_or f.parent z 0 ≢ z → (a : ℕ) → IsTieOf n.arcs f.parent z a → P a

way_steps : (n : Net) (f : Forest) (place up : List ℕ) → IsLaid n f place up → (P : ℕ → Type 0) (t y : ℕ) → y < length n.stages → get_or place y 0 ≡ t
    → (steps w : ℕ) → w < length n.stages → reached up (get_or place w 0) steps ≡ t → WayIs P n f place up w t → Linked P n.arcs w y
way_steps n f place up laid P t y high at zero w low is way = (0, one_place n f place up laid w y low high (is ∙ sym at))
way_steps n f place up laid P t y high at (suc steps) w low is way = ⊎_elim
    (λ here. (0, one_place n f place up laid w y low high (here ∙ sym at)))
    (λ apart.
    let next = up_here n f place up laid w low in
    let le = reach_le up (get_or place w 0) t (up_falls n f place up laid) (suc steps, is) in
    ⊎_elim
    (λ root. absurd (apart (sym (top_alone up (get_or place w 0) t (next ∙ ap (λ v. get_or place v 0) root) (suc steps, is)))))
    (λ child.
    let tie = tie_of n f place up laid w low child in
    let p = way w low (reach_not up (get_or place w 0)) (omega (arith, le, apart)) child tie.0 tie.1 in
    let rest = way_steps n f place up laid P t y high at steps (get_or f.parent w 0) (parent_low n f place up laid w low) (subst (λ v. reached up v steps ≡ t) next is)
    (λ z z_low r past z_child a z_tie. way z z_low (reach_step up (get_or place w 0) (get_or place z 0) (subst (λ v. Reaches up v (get_or place z 0)) (sym next) r)) past z_child a z_tie) in
    linked_trans P n.arcs w (get_or f.parent w 0) y (linked_one P n.arcs w (get_or f.parent w 0) (tie.0, tie.1.inside, p, joins_back (arc_in n.arcs tie.0) (get_or f.parent w 0) w tie.1.joins)) rest)
    (cases_eq (get_or f.parent w 0) w))
    (cases_eq (get_or place w 0) t)

-- a stage and one above it are joined by the arcs on the way
pub way_joins : (n : Net) (f : Forest) (place up : List ℕ) → IsLaid n f place up → (P : ℕ → Type 0) (w y : ℕ) → w < length n.stages → y < length n.stages → Reaches up (get_or place w 0) (get_or place y 0)
    → WayIs P n f place up w (get_or place y 0) → Linked P n.arcs w y
way_joins n f place up laid P w y low high (steps, is) way = way_steps n f place up laid P (get_or place y 0) y high refl steps w low is way
