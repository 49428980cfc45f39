-- The walk, step by step.
use Rattle.std.proofs.Common.{ℕ, ◌≡◌, ◌+◌, ◌<◌, ◌≤◌, true, false, List, [], ◌∷◌, ◌++◌, length, get_or, set, take, replicate, sym, ap, ◌∙◌, subst, inl, inr, ⊎_elim, refl, arith}
use Rattle.std.specs.Prelude.{Contains}
use Rattle.std.proofs.lemmas.Bool.{cases_eq, cases_lt, cases_Bool, both_ways, MatchBool-at_true, MatchBool-at_false}
use Rattle.std.proofs.lemmas.List.{length_push, length-set, length-replicate, get_or_append_left, get_or_default, get_or-set_same, get_or-set_other, take_all, take_at, take-take}
use Rattle.std.proofs.lemmas.List.Elements.{Contains-push, Contains-append_left, Contains-get_or}
use Rattle.service_model.specs.declared.stage.SupplyArc.{SupplyArc}
use Rattle.service_model.specs.Net.{arc_in, no_arc}
use Rattle.service_model.specs.Forests.{Joins, AreNeighbours, ArePicked}
use Rattle.tree_order.specs.declared.links.Links.{Links}
use Rattle.tree_order.specs.declared.walk.Walk.{Walk}
use Rattle.tree_order.specs.Links.{JoinsStages, Touches, other_end}
use Rattle.tree_order.specs.Steps.{IsWay, IsFirstWay, IsNextRoot, IsNextSeen, IsParentAfter, HasParents}
use Rattle.tree_order.specs.Walks.{AreLinks, Sees, IsUnderWay, Grows}
use Rattle.tree_order.proofs.LinkFacts.{other_joins, other_is, joins_touch, end_low}
use Rattle.tree_order.proofs.SeenFacts.{marks_none, marks_push, each_push}

-- the walk, once a stage came to its end
abbrev pub seen_after : ℕ → ℕ → Walk → Walk
seen_after y x w = record { marks = set w.marks y true; seen = w.seen ++ y ∷ []; parent = set w.parent y x }

push_parents : (arcs : List SupplyArc) (seen parent : List ℕ) (y x : ℕ) → HasParents arcs seen parent → (Contains seen y → ⊥) → y < length parent → IsParentAfter arcs seen y x
    → HasParents arcs (seen ++ y ∷ []) (set parent y x)
push_parents arcs seen parent y x old new low here =
    each_push (λ b z. IsParentAfter arcs b z (get_or (set parent y x) z 0)) seen y
    (λ k inside.
    subst (λ v. IsParentAfter arcs (take k seen) (get_or seen k 0) v)
    (sym (get_or-set_other parent y (get_or seen k 0) x 0 (λ same. new (subst (λ v. Contains seen v) same (Contains-get_or seen k 0 inside)))))
    (old k inside))
    (subst (λ v. IsParentAfter arcs seen y v) (sym (get_or-set_same parent y x 0 low)) here)

-- the stage that is seen next keeps the walk under way
under_way_push : (stages : ℕ) (arcs : List SupplyArc) (w : Walk) (y x : ℕ) → IsUnderWay stages arcs w → y < stages → get_or w.marks y false ≡ false → IsNextSeen stages arcs w.seen y
    → IsParentAfter arcs w.seen y x → IsUnderWay stages arcs (seen_after y x w)
under_way_push stages arcs w y x old low off next parent =
    let new : Contains w.seen y → ⊥ = λ h. both_ways _ off (old.marks.marked y h) in
    record {
      marks = marks_push w.marks w.seen y old.marks (omega (arith, low, old.marks_long)) off;
      marks_long = length-set w.marks y true ∙ old.marks_long;
      long = length-set w.parent y x ∙ old.long;
      next = each_push (IsNextSeen stages arcs) w.seen y old.next next;
      parents = push_parents arcs w.seen w.parent y x old.parents new (omega (arith, low, old.long)) parent;
    }

-- a way after a stage was seen was one before
way_back : (arcs : List SupplyArc) (seen : List ℕ) (y p a z : ℕ) → IsWay arcs (seen ++ y ∷ []) p a z → p < length seen → IsWay arcs seen p a z
way_back arcs seen y p a z way low = record {
  place = low;
  arc = way.arc;
  joins = subst (λ v. Joins (arc_in arcs a) v z) (get_or_append_left seen (y ∷ []) 0 p low) way.joins;
  new = λ inside. way.new (Contains-append_left seen (y ∷ []) z inside);
}

-- no way leads on from a place before `at`, nor from there by one of the first t links
abbrev pub IsLeft : List SupplyArc → List ℕ → List ℕ → ℕ → ℕ → Type 0
IsLeft arcs seen links t at = (p a y : ℕ) → IsWay arcs seen p a y → (at ≤ p) × (p ≡ at → (s : ℕ) × (t ≤ s) × (s < length links) × (get_or links s 0 ≡ a))

-- within a visit
pub record Within (stages : ℕ) (arcs : List SupplyArc) (links : List ℕ) (t at : ℕ) (w : Walk) : Type 0 where
  pub under_way : IsUnderWay stages arcs w
  pub left : IsLeft arcs w.seen links t at

-- the stage to which link t leads from the stage at a place
abbrev pub next_stage : List SupplyArc → List ℕ → List ℕ → ℕ → ℕ → ℕ
next_stage arcs links seen t at = other_end (arc_in arcs (get_or links t 0)) (get_or seen at 0)

abbrev pub TheLinks : List SupplyArc → List ℕ → ℕ → Type 0
TheLinks arcs links x = ArePicked (λ a. Touches (arc_in arcs a) x) (length arcs) links

pub the_links : (l : Links) (w : Walk) (at x : ℕ) (links : List ℕ) → AreLinks l → IsUnderWay l.stages l.arcs.now w → at < length w.seen → x ≡ get_or w.seen at 0 → links ≡ get_or l.lists.items x [] → TheLinks l.arcs.now links x
the_links l w at x links are under_way inside from is =
    let low = under_way.marks.there (get_or w.seen at 0) (Contains-get_or w.seen at 0 inside) in
    subst (λ (v : List ℕ). TheLinks l.arcs.now v x) (sym is) (are.each x (omega (arith, from, low, under_way.marks_long)))

pub link_low : (arcs : List SupplyArc) (links : List ℕ) (x t : ℕ) → TheLinks arcs links x → t < length links → (get_or links t 0 < length arcs) × Touches (arc_in arcs (get_or links t 0)) x
link_low arcs links x t are inside = (are.low t 0 inside, are.only (get_or links t 0) (Contains-get_or links t 0 inside))

-- a way that is left, once link t leads to no new stage
left_more : (stages : ℕ) (arcs : List SupplyArc) (links seen : List ℕ) (t at p a z : ℕ) → JoinsStages stages arcs → IsWay arcs seen p a z
    → (at ≤ p) × (p ≡ at → (s : ℕ) × (t ≤ s) × (s < length links) × (get_or links s 0 ≡ a)) → (z ≡ next_stage arcs links seen t at → ⊥)
    → (at ≤ p) × (p ≡ at → (s : ℕ) × (t + 1 ≤ s) × (s < length links) × (get_or links s 0 ≡ a))
left_more stages arcs links seen t at p a z ends way old gone = (
  old.0,
  λ here.
      let l = old.1 here in
      ⊎_elim
      (λ same.
      let is : get_or links t 0 ≡ a = ap (λ v. get_or links v 0) same ∙ l.3 in
      let j : Joins (arc_in arcs (get_or links t 0)) (get_or seen at 0) z =
      subst (λ v. Joins (arc_in arcs v) (get_or seen at 0) z) (sym is) (subst (λ v. Joins (arc_in arcs a) (get_or seen v 0) z) here way.joins) in
      let arc : get_or links t 0 < length arcs = omega (arith, is, way.arc) in
      absurd (gone (other_is (arc_in arcs (get_or links t 0)) (get_or seen at 0) z (ends (get_or links t 0) no_arc arc).2 j)))
      (λ other. (l.0, omega (arith, l.1, other), l.2, l.3))
      (cases_eq t l.0),
)

-- the way by link t is the first
first_way : (arcs : List SupplyArc) (links seen : List ℕ) (t at : ℕ) → TheLinks arcs links (get_or seen at 0) → t < length links → at < length seen → IsLeft arcs seen links t at
    → (Contains seen (next_stage arcs links seen t at) → ⊥) → IsFirstWay arcs seen at (get_or links t 0) (next_stage arcs links seen t at)
first_way arcs links seen t at are inside low left new =
    let touch = link_low arcs links (get_or seen at 0) t are inside in
    record {
      way = record { place = low; arc = touch.0; joins = other_joins (arc_in arcs (get_or links t 0)) (get_or seen at 0) touch.1; new = new };
      first = λ q b z way.
          let l = left q b z way in
          ⊎_elim
          (λ same. inr (
            same,
            (
                let s = l.1 (sym same) in
                ⊎_elim
                (λ e. omega (arith, ap (λ v. get_or links v 0) e ∙ s.3))
                (λ other. omega (arith, are.rising t s.0 0 (omega (arith, s.1, other)) s.2, s.3))
                (cases_eq t s.0)
                ),
          ))
          (λ other. inl (omega (arith, l.0, other)))
          (cases_eq at q);
    }

-- the parent is the stage at place `at`: no earlier place has a way left
first_parent : (arcs : List SupplyArc) (links seen : List ℕ) (t at y : ℕ) → at < length seen → IsLeft arcs seen links t at → (Contains seen y → ⊥) → AreNeighbours arcs (get_or seen at 0) y
    → IsParentAfter arcs seen y (get_or seen at 0)
first_parent arcs links seen t at y low left new joined =
    inr (
      at,
      low,
      refl,
      joined,
      λ q less j.
          omega (arith, less, (left q j.0 y (record { place = omega (arith, less, low); arc = j.1; joins = j.2; new = new })).0),
    )

within_more : (stages : ℕ) (arcs : List SupplyArc) (links : List ℕ) (t at : ℕ) (w w' : Walk) → JoinsStages stages arcs → TheLinks arcs links (get_or w.seen at 0) → t < length links → at < length w.seen
    → Within stages arcs links t at w → Sees (next_stage arcs links w.seen t at) (get_or w.seen at 0) w w' → Within stages arcs links (t + 1) at w'
within_more stages arcs links t at w w' ends are inside low old step =
    let y = next_stage arcs links w.seen t at in
    let x = get_or w.seen at 0 in
    let touch = link_low arcs links (get_or w.seen at 0) t are inside in
    let joins = other_joins (arc_in arcs (get_or links t 0)) (get_or w.seen at 0) touch.1 in
    let stage : next_stage arcs links w.seen t at < stages = end_low stages arcs (get_or links t 0) (get_or w.seen at 0) ends touch.0 in
    ⊎_elim
    (λ on.
    let there = old.under_way.marks.only y on in
    let rest : Within stages arcs links (t + 1) at w = record {
      under_way = old.under_way;
      left = λ p a z way. left_more stages arcs links w.seen t at p a z ends way (old.left p a z way) (λ e. way.new (subst (λ v. Contains w.seen v) (sym e) there));
    } in
    subst (λ (v : Walk). Within stages arcs links (t + 1) at v) (sym (MatchBool-at_true _ _ on step)) rest)
    (λ off.
    let new : Contains w.seen (next_stage arcs links w.seen t at) → ⊥ = λ h. both_ways _ off (old.under_way.marks.marked y h) in
    let first = first_way arcs links w.seen t at are inside low old.left new in
    let rest : Within stages arcs links (t + 1) at (seen_after y x w) = record {
      under_way = under_way_push stages arcs w y x old.under_way stage off (inr (at, get_or links t 0, first)) (first_parent arcs links w.seen t at y low old.left new (get_or links t 0, touch.0, joins));
      left = λ p a z way. ⊎_elim
          (λ earlier.
          let was = way_back arcs w.seen y p a z way earlier in
          left_more stages arcs links w.seen t at p a z ends was (old.left p a z was) (λ e. way.new (subst (λ v. Contains (w.seen ++ y ∷ []) v) (sym e) (Contains-push w.seen y))))
          (λ later. (omega (arith, later, low), λ here. absurd (omega (arith, later, low, here))))
          (cases_lt p (length w.seen));
    } in
    subst (λ (v : Walk). Within stages arcs links (t + 1) at v) (sym (MatchBool-at_false _ _ off step)) rest)
    (cases_Bool (get_or w.marks y false))

pub within_next : (stages : ℕ) (arcs : List SupplyArc) (links : List ℕ) (t at y x : ℕ) (w w' : Walk) → JoinsStages stages arcs → TheLinks arcs links x → t < length links → at < length w.seen
    → Within stages arcs links t at w → x ≡ get_or w.seen at 0 → y ≡ other_end (arc_in arcs (get_or links t 0)) x → Sees y x w w' → Within stages arcs links (t + 1) at w'
within_next stages arcs links t at y x w w' ends are inside low old from to step =
    let end : y ≡ next_stage arcs links w.seen t at = to ∙ ap (λ v. other_end (arc_in arcs (get_or links t 0)) v) from in
    within_more stages arcs links t at w w' ends (subst (λ v. TheLinks arcs links v) from are) inside low old
    (subst (λ v. Sees (next_stage arcs links w.seen t at) v w w') from (subst (λ v. Sees v x w w') end step))

-- a visit begins between two visits, and ends there

pub visit_start : (stages : ℕ) (arcs : List SupplyArc) (links : List ℕ) (at : ℕ) (w : Walk) → TheLinks arcs links (get_or w.seen at 0) → IsUnderWay stages arcs w → ((p a y : ℕ) → IsWay arcs w.seen p a y → at ≤ p)
    → Within stages arcs links 0 at w
visit_start stages arcs links at w are under_way left = record {
  under_way = under_way;
  left = λ p a z way. (
    left p a z way,
    λ here.
        let l = are.all a way.arc (joins_touch (arc_in arcs a) (get_or w.seen at 0) z (subst (λ v. Joins (arc_in arcs a) (get_or w.seen v 0) z) here way.joins)) in
        (l.0, omega arith, l.1, get_or_default links l.0 0 a l.1 ∙ l.2),
  );
}

pub visit_end : (stages : ℕ) (arcs : List SupplyArc) (links : List ℕ) (t at : ℕ) (w : Walk) → length links ≤ t → Within stages arcs links t at w → (p a y : ℕ) → IsWay arcs w.seen p a y → at + 1 ≤ p
visit_end stages arcs links t at w all old p a y way =
    let l = old.left p a y way in
    ⊎_elim
    (λ same. let s = l.1 same in absurd (omega (arith, s.1, s.2, all)))
    (λ other. omega (arith, l.0, other))
    (cases_eq p at)

-- more is seen

pub grows_not : (seen : List ℕ) → Grows seen seen
grows_not seen = record { longer = omega arith; front = take_all (length seen) seen (omega arith) }

pub grows_trans : (one two three : List ℕ) → Grows one two → Grows two three → Grows one three
grows_trans one two three first then = record {
  longer = omega (arith, first.longer, then.longer);
  front = sym (take-take (length one) (length two) three first.longer) ∙ ap (take (length one)) then.front ∙ first.front;
}

grows_push : (seen : List ℕ) (y : ℕ) → Grows seen (seen ++ y ∷ [])
grows_push seen y = record { longer = omega (arith, length_push seen y); front = take_at seen (y ∷ []) (length seen) refl }

pub grows_sees : (y x : ℕ) (w w' : Walk) → Sees y x w w' → Grows w.seen w'.seen
grows_sees y x w w' step = ⊎_elim
    (λ on. subst (λ (v : Walk). Grows w.seen v.seen) (sym (MatchBool-at_true _ _ on step)) (grows_not w.seen))
    (λ off. subst (λ (v : Walk). Grows w.seen v.seen) (sym (MatchBool-at_false _ _ off step)) (grows_push w.seen y))
    (cases_Bool (get_or w.marks y false))

-- a root comes where no way leads on

pub record RootSeen (stages : ℕ) (arcs : List SupplyArc) (at root : ℕ) (w : Walk) : Type 0 where
  pub under_way : IsUnderWay stages arcs w
  pub left : (p a y : ℕ) → IsWay arcs w.seen p a y → at ≤ p
  pub within : at ≤ length w.seen
  pub there : Contains w.seen root

pub root_more : (stages : ℕ) (arcs : List SupplyArc) (at root : ℕ) (w w' : Walk) → root < stages → at ≡ length w.seen → IsUnderWay stages arcs w → ((p a y : ℕ) → IsWay arcs w.seen p a y → length w.seen ≤ p)
    → ((j : ℕ) → j < root → Contains w.seen j) → Sees root root w w' → RootSeen stages arcs at root w'
root_more stages arcs at root w w' low end old left lower step = ⊎_elim
    (λ on.
    let rest : RootSeen stages arcs at root w = record {
      under_way = old;
      left = λ p a y way. omega (arith, end, left p a y way);
      within = omega (arith, end);
      there = old.marks.only root on;
    } in
    subst (λ (v : Walk). RootSeen stages arcs at root v) (sym (MatchBool-at_true _ _ on step)) rest)
    (λ off.
    let new : Contains w.seen root → ⊥ = λ h. both_ways _ off (old.marks.marked root h) in
    let alone : (p a z : ℕ) → IsWay arcs w.seen p a z → ⊥ = λ p a z way. omega (arith, left p a z way, way.place) in
    let next : IsNextRoot stages arcs w.seen root = record {
      stage = low;
      new = new;
      alone = alone;
      lowest = λ z stage fresh. ⊎_elim (λ less. absurd (fresh (lower z less))) (λ more. more) (cases_lt z root);
    } in
    let rest : RootSeen stages arcs at root (seen_after root root w) = record {
      under_way = under_way_push stages arcs w root root old low off (inl next) (inl (refl, λ q less j. alone q j.0 root (record { place = less; arc = j.1; joins = j.2; new = new })));
      left = λ p a z way. ⊎_elim
          (λ earlier. absurd (alone p a z (way_back arcs w.seen root p a z way earlier)))
          (λ later. omega (arith, later, end))
          (cases_lt p (length w.seen));
      within = omega (arith, end, length_push w.seen root);
      there = Contains-push w.seen root;
    } in
    subst (λ (v : Walk). RootSeen stages arcs at root v) (sym (MatchBool-at_false _ _ off step)) rest)
    (cases_Bool (get_or w.marks root false))

pub under_way_start : (stages : ℕ) (arcs : List SupplyArc) → IsUnderWay stages arcs (record { marks = replicate stages false; seen = []; parent = replicate stages 0 })
under_way_start stages arcs = record {
  marks = marks_none stages;
  marks_long = length-replicate stages false;
  long = length-replicate stages 0;
  next = λ k inside. absurd (omega arith);
  parents = λ k inside. absurd (omega arith);
}
