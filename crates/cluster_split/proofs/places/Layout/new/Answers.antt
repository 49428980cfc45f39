-- The order from its end has each stage once, and as many places as there are parents.
use Rattle.std.proofs.Common.{ℕ, ◌≡◌, ◌∙◌, ◌<◌, List, length, reverse, ap, sym, subst, arith}
use Rattle.std.specs.Prelude.{All}
use Rattle.service_model.specs.Forests.{HasEachOnce}
use Rattle.tree_order.proofs.ForestLaws.{each_long}
use Rattle.cluster_split.proofs.places.Layout.new.Goals as goal

pub places_of-requires-clause-each_once : goal.places_of-requires-clause-each_once
places_of-requires-clause-each_once c =
    let f = c.args.forest.now in
    let seen : c.as_slice-2.result.now ≡ reverse c.args.forest.now.order = c.as_slice-2.ensures.value ∙ c.in_ok-seen.ensures ∙ ap reverse c.as_slice.ensures in
    let long = each_long (length f.parent) (reverse f.order) c.requires.each_once in
    subst (λ (v : List ℕ). HasEachOnce (length v) v) (sym seen) (subst (λ n. HasEachOnce n (reverse f.order)) (sym long) c.requires.each_once)

pub ups_of-requires-clause-parent : goal.ups_of-requires-clause-parent
ups_of-requires-clause-parent c =
    let f = c.args.forest.now in
    let seen : c.as_slice-2.result.now ≡ reverse c.args.forest.now.order = c.as_slice-2.ensures.value ∙ c.in_ok-seen.ensures ∙ ap reverse c.as_slice.ensures in
    let long = each_long (length f.parent) (reverse f.order) c.requires.each_once in
    let low = subst (λ (p : List ℕ). All (λ x. x < length c.args.forest.now.parent) p) (sym c.as_slice-4.ensures) c.requires.parents in
    let same : length c.as_slice-5.result.now ≡ length c.args.forest.now.parent = ap length c.as_slice-5.ensures ∙ c.in_ok-place.ensures.long ∙ ap length seen ∙ long in
    λ k d inside. omega (arith, low k d inside, same)
