-- The walk over the network's arcs gives the parents and the order; the lists hang on the parents.
use Rattle.std.proofs.Common.{◌≡◌, ◌∙◌, ◌<◌, ℕ, List, length, reverse, ap, subst, sym, refl}
use Rattle.std.specs.Prelude.{All}
use Rattle.service_model.specs.declared.stage.SupplyArc.{SupplyArc}
use Rattle.service_model.specs.Net.{arc_in}
use Rattle.service_model.specs.Forests.{IsChildOf, IsKept, ArePicked, ArePickedFor}
use Rattle.tree_order.specs.declared.forest.Forest.{Forest}
use Rattle.tree_order.specs.Walks.{IsWholeWalk}
use Rattle.tree_order.proofs.ForestLaws.{children_first, one_side, all_kept}
use Rattle.tree_order.proofs.OneForest.{one_forest}
use Rattle.tree_order.proofs.WalkFacts.{walk_of, parents_low, forest_from}
use Rattle.tree_order.proofs.forest.forest_of.Goals as goal

pub children_of-requires-clause-low : goal.children_of-requires-clause-low
children_of-requires-clause-low c =
    let n = c.args.network.now in
    let w = c.in_ok-walk.walk in
    let stages : c.in_ok-links.links.stages ≡ length c.args.network.now.stages = c.in_ok-links.ensures.stages ∙ c.len.ensures ∙ ap length c.stages.ensures.value in
    let arcs : c.in_ok-links.links.arcs.now ≡ c.args.network.now.arcs = c.in_ok-links.ensures.arcs ∙ c.as_slice-arcs.ensures ∙ c.arcs.ensures.value in
    let whole = subst (λ s. IsWholeWalk s n.arcs w) stages (subst (λ (a : List SupplyArc). IsWholeWalk c.in_ok-links.links.stages a w) arcs c.in_ok-walk.ensures) in
    let walk = walk_of n c.arcs.ensures.valid w whole in
    subst (λ (p : List ℕ). All (λ x. x < length p) p) (sym c.as_slice.ensures) (subst (λ s. All (λ x. x < s) w.parent) (sym whole.long) (parents_low (length n.stages) n.arcs w.seen w.parent walk))

pub returns : goal.returns
returns c =
    let n = c.args.network.now in
    let w = c.in_ok-walk.walk in
    let stages : c.in_ok-links.links.stages ≡ length c.args.network.now.stages = c.in_ok-links.ensures.stages ∙ c.len.ensures ∙ ap length c.stages.ensures.value in
    let arcs : c.in_ok-links.links.arcs.now ≡ c.args.network.now.arcs = c.in_ok-links.ensures.arcs ∙ c.as_slice-arcs.ensures ∙ c.arcs.ensures.value in
    let whole = subst (λ s. IsWholeWalk s n.arcs w) stages (subst (λ (a : List SupplyArc). IsWholeWalk c.in_ok-links.links.stages a w) arcs c.in_ok-walk.ensures) in
    let f : Forest = record { parent = w.parent; children = c.in_ok-children.children; order = c.in_ok-order.order; dropped = c.in_ok-dropped.dropped } in
    let children = subst (λ k. ArePickedFor (IsChildOf w.parent) k k f.children) whole.long
    (subst (λ (p : List ℕ). ArePickedFor (IsChildOf p) (length p) (length p) f.children) c.as_slice.ensures c.in_ok-children.ensures) in
    let dropped = subst (λ (a : List SupplyArc). ArePicked (λ k. ¬ IsKept w.parent (arc_in a k)) (length a) f.dropped) (c.as_slice-arcs.ensures ∙ c.arcs.ensures.value)
    (subst (λ (p : List ℕ). ArePicked (λ k. ¬ IsKept p (arc_in c.as_slice-arcs.result.now k)) (length c.as_slice-arcs.result.now) f.dropped) c.as_slice-2.ensures c.in_ok-dropped.ensures) in
    let forest = forest_from (length n.stages) n.arcs w.seen w.parent f (walk_of n c.arcs.ensures.valid w whole) refl (c.in_ok-order.ensures ∙ ap reverse c.as_slice-3.ensures) children dropped in
    record {
      forest = forest;
      only = λ g other. one_forest n g f c.arcs.ensures.valid other forest;
      children_first = children_first (length n.stages) n.arcs f forest;
      one_side = one_side n f c.arcs.ensures.valid forest;
      all_kept = all_kept (length n.stages) n.arcs f forest;
    }
