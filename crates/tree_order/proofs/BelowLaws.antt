-- The stages at and below a stage of the forest: each once, and each stage at or below one root.
use Rattle.std.proofs.Common.{ℕ, zero, suc, ◌≡◌, ◌≢◌, ◌+◌, ◌-◌, ◌<◌, ◌≤◌, ◌==◌, List, [], get_or, reverse, refl, sym, ap, ◌∙◌, subst, ⊎_elim, arith}
use Rattle.std.specs.Prelude.{AllPairs, Contains}
use Rattle.std.specs.List.{flat_map}
use Rattle.std.proofs.lemmas.Bool.{cases_eq, cases_lt, cases_order, eq-eqb, eqb-true}
use Rattle.std.proofs.lemmas.List.Elements.{All-contains, Contains-get_or}
use Rattle.std.proofs.lemmas.List.Kept.{AllPairs-filter}
use Rattle.service_model.specs.declared.stage.SupplyArc.{SupplyArc}
use Rattle.service_model.specs.Forests.{HasEachOnce, IsChildOf, ArePickedFor, below_within}
use Rattle.tree_order.specs.declared.forest.Forest.{Forest}
use Rattle.tree_order.specs.Forest.{IsForest, roots_of}
use Rattle.tree_order.proofs.BelowFacts.{in_cons, in_head, in_tail, in_flat, flat_has, in_filter, filter_has, Once, pairs_from_once, once_from_pairs, flat_once}
use Rattle.tree_order.proofs.ForestLaws.{IsRanked, forest_ranked, rank_in, rank_low, order_each}

-- a stage's parent, its parent's parent and so on
abbrev pub up : List ℕ → ℕ → ℕ → ℕ
up parent x zero = x
up parent x (suc m) = up parent (get_or parent x 0) m

up_low : (stages : ℕ) (parent : List ℕ) (rank : ℕ → ℕ) → IsRanked stages parent rank → (m x : ℕ) → x < stages → (up parent x m < stages) × (rank (up parent x m) ≤ rank x)
up_low stages parent rank ranked zero x low = (low, omega arith)
up_low stages parent rank ranked (suc m) x low =
    let rest = up_low stages parent rank ranked m (get_or parent x 0) (ranked.low x low) in
    (rest.0, ⊎_elim (λ same. omega (arith, rest.1, ap rank same)) (λ less. omega (arith, rest.1, less)) (ranked.falls x low))

up_add : (parent : List ℕ) (m d x : ℕ) → up parent x (m + d) ≡ up parent (up parent x m) d
up_add parent zero d x = let e : zero + d ≡ d = omega arith in ap (up parent x) e
up_add parent (suc m) d x = let e : suc m + d ≡ suc (m + d) = omega arith in ap (up parent x) e ∙ up_add parent m d (get_or parent x 0)

-- a root stays where it is
up_root : (parent : List ℕ) (r m : ℕ) → get_or parent r 0 ≡ r → up parent r m ≡ r
up_root parent r zero root = refl
up_root parent r (suc m) root = ap (λ v. up parent v m) root ∙ up_root parent r m root

-- two different children have nothing below both
apart_up : (stages : ℕ) (parent : List ℕ) (rank : ℕ → ℕ) → IsRanked stages parent rank → (i c e x m n : ℕ) → i < stages → IsChildOf parent i c → IsChildOf parent i e → e < stages
    → up parent x m ≡ c → up parent x n ≡ e → m < n → ⊥
apart_up stages parent rank ranked i c e x m n low child other within is is' less =
    let sum : n ≡ m + suc (n - m - 1) = omega arith in
    let far : e ≡ up parent i (n - m - 1) =
    sym is' ∙ ap (up parent x) sum ∙ up_add parent m (suc (n - m - 1)) x ∙ ap (λ v. up parent v (suc (n - m - 1))) is ∙ ap (λ v. up parent v (n - m - 1)) child.0 in
    let below = (up_low stages parent rank ranked (n - m - 1) i low).1 in
    ⊎_elim
    (λ same. other.1 (sym other.0 ∙ same))
    (λ fall. omega (arith, fall, below, ap rank far, ap rank other.0))
    (ranked.falls e within)

-- what stands below comes up to the stage
pub below_up : (stages : ℕ) (parent : List ℕ) (children : List (List ℕ)) → ArePickedFor (IsChildOf parent) stages stages children → (steps i q : ℕ) → i < stages → Contains (below_within steps children i) q
    → (q < stages) × ((m : ℕ) × (up parent q m ≡ i))
below_up stages parent children has zero i q low h = absurd (omega (arith, h.1))
below_up stages parent children has (suc steps) i q low h = ⊎_elim
    (λ here. (subst (λ v. v < stages) here low, (0, sym here)))
    (λ later.
    let r = in_flat (below_within steps children) (get_or children i []) q later in
    let kids = has.each i low in
    let kid_low : r.0 < stages = All-contains (λ j. j < stages) (get_or children i []) r.0 kids.low r.1 in
    let deep = below_up stages parent children has steps r.0 q kid_low r.2 in
    let e : deep.1.0 + suc zero ≡ suc deep.1.0 = omega arith in (
      deep.0,
      (suc deep.1.0, ap (up parent q) (sym e) ∙ up_add parent deep.1.0 (suc zero) q ∙ ap (λ v. up parent v (suc zero)) deep.1.1 ∙ (kids.only r.0 r.1).0),
    ))
    (in_cons i (flat_map (below_within steps children) (get_or children i [])) q h)

-- one step further down
step_down : (children : List (List ℕ)) (steps i x c : ℕ) → Contains (below_within steps children i) x → Contains (get_or children x []) c → Contains (below_within (suc steps) children i) c
step_down children zero i x c h child = absurd (omega (arith, h.1))
step_down children (suc steps) i x c h child = ⊎_elim
    (λ here. in_tail i (flat_map (below_within (suc steps) children) (get_or children i [])) c
    (flat_has (below_within (suc steps) children) (get_or children i []) c c (subst (λ v. Contains (get_or children v []) c) (sym here) child)
    (in_head c (flat_map (below_within steps children) (get_or children c [])))))
    (λ later.
    let r = in_flat (below_within steps children) (get_or children i []) x later in
    in_tail i (flat_map (below_within (suc steps) children) (get_or children i [])) c
    (flat_has (below_within (suc steps) children) (get_or children i []) r.0 c r.1 (step_down children steps r.0 x c r.2 child)))
    (in_cons i (flat_map (below_within steps children) (get_or children i [])) x h)

-- more steps reach more
pub more_steps : (children : List (List ℕ)) (steps more i x : ℕ) → steps ≤ more → Contains (below_within steps children i) x → Contains (below_within more children i) x
more_steps children zero more i x le h = absurd (omega (arith, h.1))
more_steps children (suc steps) zero i x le h = absurd (omega (arith, le))
more_steps children (suc steps) (suc more) i x le h = ⊎_elim
    (λ here. subst (λ v. Contains (below_within (suc more) children i) v) here (in_head i (flat_map (below_within more children) (get_or children i []))))
    (λ later.
    let r = in_flat (below_within steps children) (get_or children i []) x later in
    in_tail i (flat_map (below_within more children) (get_or children i [])) x
    (flat_has (below_within more children) (get_or children i []) r.0 x r.1 (more_steps children steps more r.0 x (omega (arith, le)) r.2)))
    (in_cons i (flat_map (below_within steps children) (get_or children i [])) x h)

-- from a stage up to another: as many steps down as its rank suffice
down_from_up : (stages : ℕ) (parent : List ℕ) (children : List (List ℕ)) (rank : ℕ → ℕ) → IsRanked stages parent rank → ArePickedFor (IsChildOf parent) stages stages children
    → (m j i : ℕ) → j < stages → up parent j m ≡ i → Contains (below_within (suc (rank j)) children i) j
down_from_up stages parent children rank ranked has zero j i low is =
    subst (λ v. Contains (below_within (suc (rank j)) children v) j) is (in_head j (flat_map (below_within (rank j) children) (get_or children j [])))
down_from_up stages parent children rank ranked has (suc m) j i low is =
    let above = down_from_up stages parent children rank ranked has m (get_or parent j 0) i (ranked.low j low) is in
    ⊎_elim
    (λ same. subst (λ v. Contains (below_within (suc (rank v)) children i) v) same above)
    (λ falls. ⊎_elim
    (λ same. absurd (omega (arith, falls, ap rank same)))
    (λ apart.
    let mine = (has.each (get_or parent j 0) (ranked.low j low)).all j low (refl, apart) in
    more_steps children (suc (suc (rank (get_or parent j 0)))) (suc (rank j)) i j (omega (arith, falls)) (step_down children (suc (rank (get_or parent j 0))) i (get_or parent j 0) j above mine))
    (cases_eq (get_or parent j 0) j))
    (ranked.falls j low)

-- each stage comes up to a root
root_up : (stages : ℕ) (parent : List ℕ) (rank : ℕ → ℕ) → IsRanked stages parent rank → (fuel j : ℕ) → rank j < fuel → j < stages → (m : ℕ) × (get_or parent (up parent j m) 0 ≡ up parent j m)
root_up stages parent rank ranked zero j less low = absurd (omega (arith, less))
root_up stages parent rank ranked (suc fuel) j less low = ⊎_elim
    (λ root. (0, root))
    (λ falls. let rest = root_up stages parent rank ranked fuel (get_or parent j 0) (omega (arith, less, falls)) (ranked.low j low) in (suc rest.0, rest.1))
    (ranked.falls j low)

-- each once

once_below : (stages : ℕ) (parent : List ℕ) (children : List (List ℕ)) (rank : ℕ → ℕ) → IsRanked stages parent rank → ArePickedFor (IsChildOf parent) stages stages children → (steps i : ℕ) → i < stages
    → Once (below_within steps children i)
once_below stages parent children rank ranked has zero i low = tt
once_below stages parent children rank ranked has (suc steps) i low =
    let kids = has.each i low in
    let cs = get_or children i [] in
    let kid_low = All-contains (λ j. j < stages) (get_or children i []) in (
      λ h.
          let r = in_flat (below_within steps children) cs i h in
          let child = kids.only r.0 r.1 in
          let deep = below_up stages parent children has steps r.0 i (kid_low r.0 kids.low r.1) r.2 in
          let le = (up_low stages parent rank ranked deep.1.0 i low).1 in
          ⊎_elim
          (λ same. child.1 (sym child.0 ∙ same))
          (λ fall. omega (arith, fall, le, ap rank deep.1.1, ap rank child.0))
          (ranked.falls r.0 (kid_low r.0 kids.low r.1)),
      flat_once (below_within steps children) cs (once_from_pairs cs (λ s t d less inside same. omega (arith, kids.rising s t d less inside, same)))
          (λ c h. once_below stages parent children rank ranked has steps c (kid_low c kids.low h))
          (λ c e q h h' other left right.
          let one = below_up stages parent children has steps c q (kid_low c kids.low h) left in
          let two = below_up stages parent children has steps e q (kid_low e kids.low h') right in
          ⊎_elim
          (λ same. other (sym one.1.1 ∙ ap (up parent q) same ∙ two.1.1))
          (λ less. ⊎_elim
          (λ first. apart_up stages parent rank ranked i c e q one.1.0 two.1.0 low (kids.only c h) (kids.only e h') (kid_low e kids.low h') one.1.1 two.1.1 first)
          (λ second. apart_up stages parent rank ranked i e c q two.1.0 one.1.0 low (kids.only e h') (kids.only c h) (kid_low c kids.low h) two.1.1 one.1.1 second)
          less)
          (cases_order one.1.0 two.1.0)),
    )

-- what stands at or below a stage stands there once
pub below_once : (stages : ℕ) (arcs : List SupplyArc) (f : Forest) → IsForest stages arcs f → (steps i : ℕ) → i < stages → AllPairs (λ j k. j ≢ k) (below_within steps f.children i)
below_once stages arcs f forest steps i low =
    pairs_from_once (below_within steps f.children i) (once_below stages f.parent f.children (rank_in (reverse f.order)) (forest_ranked stages arcs f forest) forest.children steps i low)

-- as many steps down as there are stages reach all that comes up to a stage
pub below_from_up : (stages : ℕ) (arcs : List SupplyArc) (f : Forest) → IsForest stages arcs f → (m j i : ℕ) → j < stages → up f.parent j m ≡ i → Contains (below_within stages f.children i) j
below_from_up stages arcs f forest m j i low is =
    more_steps f.children (suc (rank_in (reverse f.order) j)) stages i j (rank_low stages arcs f forest j low)
    (down_from_up stages f.parent f.children (rank_in (reverse f.order)) (forest_ranked stages arcs f forest) forest.children m j i low is)

-- each stage is at or below a root
pub below_root : (stages : ℕ) (arcs : List SupplyArc) (f : Forest) → IsForest stages arcs f → (j : ℕ) → j < stages → (r : ℕ) × (r < stages) × (get_or f.parent r 0 ≡ r) × Contains (below_within stages f.children r) j
below_root stages arcs f forest j low =
    let rank = rank_in (reverse f.order) in
    let ranked = forest_ranked stages arcs f forest in
    let root = root_up stages f.parent rank ranked (suc (rank j)) j (omega arith) low in
    (up f.parent j root.0, (up_low stages f.parent rank ranked root.0 j low).0, root.1, below_from_up stages arcs f forest root.0 j (up f.parent j root.0) low refl)

up_agree : (parent : List ℕ) (j r s m n : ℕ) → get_or parent r 0 ≡ r → up parent j m ≡ r → up parent j n ≡ s → m ≤ n → r ≡ s
up_agree parent j r s m n root is is' le =
    let sum : m + (n - m) ≡ n = omega (arith, le) in
    sym (up_root parent r (n - m) root) ∙ ap (λ v. up parent v (n - m)) (sym is) ∙ sym (up_add parent m (n - m) j) ∙ ap (up parent j) sum ∙ is'

-- and not of another
pub one_root : (stages : ℕ) (arcs : List SupplyArc) (f : Forest) → IsForest stages arcs f → (steps more r s j : ℕ) → r < stages → s < stages → get_or f.parent r 0 ≡ r → get_or f.parent s 0 ≡ s
    → Contains (below_within steps f.children r) j → Contains (below_within more f.children s) j → r ≡ s
one_root stages arcs f forest steps more r s j low low' root root' here here' =
    let one = below_up stages f.parent f.children forest.children steps r j low here in
    let two = below_up stages f.parent f.children forest.children more s j low' here' in
    ⊎_elim
    (λ less. up_agree f.parent j r s one.1.0 two.1.0 root one.1.1 two.1.1 (omega (arith, less)))
    (λ past. sym (up_agree f.parent j s r two.1.0 one.1.0 root' two.1.1 one.1.1 past))
    (cases_lt one.1.0 two.1.0)

-- a root of the list is a root
pub root_in_list : (stages : ℕ) (arcs : List SupplyArc) (f : Forest) → IsForest stages arcs f → (r : ℕ) → Contains (roots_of f) r → (r < stages) × (get_or f.parent r 0 ≡ r)
root_in_list stages arcs f forest r h =
    let there = in_filter (λ j. get_or f.parent j 0 == j) f.order r h in
    (All-contains (λ j. j < stages) f.order r (order_each stages arcs f forest).low there.0, eqb-true (get_or f.parent r 0) r there.1)

pub list_has_root : (stages : ℕ) (arcs : List SupplyArc) (f : Forest) → IsForest stages arcs f → (r : ℕ) → r < stages → get_or f.parent r 0 ≡ r → Contains (roots_of f) r
list_has_root stages arcs f forest r low root = filter_has (λ j. get_or f.parent j 0 == j) f.order r ((order_each stages arcs f forest).each r low) (eq-eqb (get_or f.parent r 0) r root)

-- the stages at or below the roots are all stages, each once, however many steps deep one looks from the number of stages on
pub each_below : (stages : ℕ) (arcs : List SupplyArc) (f : Forest) → IsForest stages arcs f → (steps : ℕ) → stages ≤ steps → HasEachOnce stages (flat_map (below_within steps f.children) (roots_of f))
each_below stages arcs f forest steps enough = record {
  low = λ k d inside.
      let all = flat_map (below_within steps f.children) (roots_of f) in
      let r = in_flat (below_within steps f.children) (roots_of f) (get_or all k d) (Contains-get_or all k d inside) in
      (below_up stages f.parent f.children forest.children steps r.0 (get_or all k d) (root_in_list stages arcs f forest r.0 r.1).0 r.2).0;
  once = pairs_from_once (flat_map (below_within steps f.children) (roots_of f))
      (flat_once (below_within steps f.children) (roots_of f)
      (once_from_pairs (roots_of f) (AllPairs-filter (λ i j. i ≢ j) (λ j. get_or f.parent j 0 == j) f.order (order_each stages arcs f forest).once))
      (λ r h. once_from_pairs (below_within steps f.children r) (below_once stages arcs f forest steps r (root_in_list stages arcs f forest r h).0))
      (λ r s q h h' other left right.
      let root = root_in_list stages arcs f forest r h in
      let root' = root_in_list stages arcs f forest s h' in
      other (one_root stages arcs f forest steps steps r s q root.0 root'.0 root.1 root'.1 left right)));
  each = λ j low.
      let r = below_root stages arcs f forest j low in
      flat_has (below_within steps f.children) (roots_of f) r.0 j (list_has_root stages arcs f forest r.0 r.1 r.2)
      (more_steps f.children stages steps r.0 j enough r.3);
}

pub all_below : (stages : ℕ) (arcs : List SupplyArc) (f : Forest) → IsForest stages arcs f → HasEachOnce stages (flat_map (below_within stages f.children) (roots_of f))
all_below stages arcs f forest = each_below stages arcs f forest stages (omega arith)
