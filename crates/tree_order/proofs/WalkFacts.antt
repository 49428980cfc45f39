-- What the walk leaves: an order and parents.
use Rattle.std.proofs.Common.{ℕ, ◌≡◌, ◌<◌, List, length, get_or, take, reverse, sym, ap, ◌∙◌, subst, inl, inr, arith}
use Rattle.std.specs.Prelude.{All}
use Rattle.std.proofs.lemmas.List.{reverse-reverse, get_or_default, get_or-take, length-take}
use Rattle.service_model.specs.declared.stage.SupplyArc.{SupplyArc}
use Rattle.service_model.specs.Net.{Net, arc_in}
use Rattle.service_model.specs.Networks.{IsNetwork}
use Rattle.service_model.specs.Forests.{AreNeighbours, IsSeenOrder, IsParentAt, IsWalk, IsChildOf, IsKept, ArePicked, ArePickedFor}
use Rattle.tree_order.specs.declared.forest.Forest.{Forest}
use Rattle.tree_order.specs.declared.walk.Walk.{Walk}
use Rattle.tree_order.specs.Forest.{IsForest}
use Rattle.tree_order.specs.Links.{JoinsStages}
use Rattle.tree_order.specs.Steps.{IsParentAfter}
use Rattle.tree_order.specs.Walks.{IsWholeWalk}
use Rattle.tree_order.proofs.ArcFacts.{joins_stages, one_arc}
use Rattle.tree_order.proofs.PlaceFacts.{IsWalkOrder, place_of}
use Rattle.tree_order.proofs.NextFacts.{walk_order}
use Rattle.tree_order.proofs.GroupFacts.{first_from_root}
use Rattle.tree_order.proofs.OrderFacts.{seen_order}

parent_at : (stages : ℕ) (arcs : List SupplyArc) (seen : List ℕ) (k x : ℕ) → JoinsStages stages arcs → IsWalkOrder stages arcs seen → k < length seen → IsParentAfter arcs (take k seen) (get_or seen k 0) x → IsParentAt arcs seen k x
parent_at stages arcs seen k x ends order inside (inl root) = inl (
  first_from_root stages arcs seen ends order k inside (λ p before joined.
      root.1 p (omega (arith, before, inside, length-take k seen)) (subst (λ v. AreNeighbours arcs v (get_or seen k 0)) (sym (get_or-take k seen p 0 before)) joined)),
  root.0,
)
parent_at stages arcs seen k x ends order inside (inr (p, low, is, joined, first)) =
    let before : p < k = omega (arith, low, length-take k seen) in
    let here : x ≡ get_or seen p 0 = is ∙ get_or-take k seen p 0 before in
    let near : AreNeighbours arcs (get_or seen p 0) (get_or seen k 0) = subst (λ v. AreNeighbours arcs v (get_or seen k 0)) here joined in
    inr (
      p,
      near.0,
      record {
        place = omega (arith, before, inside);
        arc = near.1;
        joins = near.2;
        first = λ q less joined. first q less (subst (λ v. AreNeighbours arcs v (get_or seen k 0)) (sym (get_or-take k seen q 0 (omega (arith, less, before)))) joined);
      },
      before,
      here,
    )

-- a walk over all stages sees them in the order that is wanted
pub walk_of : (n : Net) → IsNetwork n → (w : Walk) → IsWholeWalk (length n.stages) n.arcs w → IsWalk (length n.stages) n.arcs w.seen w.parent
walk_of n valid w whole =
    let ends = joins_stages n valid in
    let order = walk_order (length n.stages) n.arcs w.seen ends whole.next whole.each in
    record {
      order = seen_order (length n.stages) n.arcs w.seen ends (one_arc n valid) order;
      long = whole.long;
      parents = λ k inside. parent_at (length n.stages) n.arcs w.seen k (get_or w.parent (get_or w.seen k 0) 0) ends order inside (whole.parents k inside);
    }

-- a parent is a stage

parent_at_low : (stages : ℕ) (arcs : List SupplyArc) (seen : List ℕ) (k x : ℕ) → IsSeenOrder stages arcs seen → k < length seen → IsParentAt arcs seen k x → x < stages
parent_at_low stages arcs seen k x order inside (inl root) = subst (λ v. v < stages) (sym root.1) (order.each_once.low k 0 inside)
parent_at_low stages arcs seen k x order inside (inr (p, a, tie, before, is)) = subst (λ v. v < stages) (sym is) (order.each_once.low p 0 tie.place)

pub parent_low : (stages : ℕ) (arcs : List SupplyArc) (seen parent : List ℕ) → IsWalk stages arcs seen parent → (j : ℕ) → j < stages → get_or parent j 0 < stages
parent_low stages arcs seen parent walk j low =
    let at = place_of seen j (walk.order.each_once.each j low) in
    subst (λ v. get_or parent v 0 < stages) at.1.is (parent_at_low stages arcs seen at.0 (get_or parent (get_or seen at.0 0) 0) walk.order at.1.inside (walk.parents at.0 at.1.inside))

pub parents_low : (stages : ℕ) (arcs : List SupplyArc) (seen parent : List ℕ) → IsWalk stages arcs seen parent → All (λ p. p < stages) parent
parents_low stages arcs seen parent walk = λ j d inside.
    subst (λ v. v < stages) (get_or_default parent j 0 d inside) (parent_low stages arcs seen parent walk j (omega (arith, inside, walk.long)))

-- the forest of a walk
pub forest_from : (stages : ℕ) (arcs : List SupplyArc) (seen parent : List ℕ) (f : Forest) → IsWalk stages arcs seen parent → f.parent ≡ parent → f.order ≡ reverse seen → ArePickedFor (IsChildOf parent) stages stages f.children
    → ArePicked (λ a. ¬ IsKept parent (arc_in arcs a)) (length arcs) f.dropped → IsForest stages arcs f
forest_from stages arcs seen parent f walk same order children dropped =
    let back : seen ≡ reverse f.order = sym (ap reverse order ∙ reverse-reverse seen) in
    record {
      walk = subst (λ (s : List ℕ). IsWalk stages arcs s f.parent) back (subst (λ (p : List ℕ). IsWalk stages arcs seen p) (sym same) walk);
      children = subst (λ (p : List ℕ). ArePickedFor (IsChildOf p) stages stages f.children) (sym same) children;
      dropped = subst (λ (p : List ℕ). ArePicked (λ a. ¬ IsKept p (arc_in arcs a)) (length arcs) f.dropped) (sym same) dropped;
    }
