-- One arc more is merged: its ends are of one tree.
use Rattle.std.proofs.Common.{ℕ, List, get_or, sym, subst}
use Rattle.service_model.specs.Net.{arc_in}
use Rattle.cluster_split.specs.Tops.{AreTops, SameTree, Merges}
use Rattle.cluster_split.specs.Places.{AtEnds}
use Rattle.cluster_split.proofs.MergeFacts.{merged_more}
use Rattle.cluster_split.proofs.heads.merge_all.Goals as goal

pub merge-requires-clause-tree : goal.merge-requires-clause-tree
merge-requires-clause-tree c =
    let arc = arc_in c.args.arcs.now (get_or c.args.dropped.now c.dropped.k 0) in
    let tree = subst (λ (p : List ℕ). AtEnds (SameTree c.args.layout.now.up) p arc) (sym c.as_slice-place.ensures) (c.requires.ready.trees c.dropped.k c.dropped-test.true) in
    subst (λ (u : List ℕ). AtEnds (SameTree u) c.as_slice-place.result.now arc) (sym c.as_slice-up.ensures) tree

pub dropped-preserved : goal.dropped-preserved
dropped-preserved c =
    let arc = arc_in c.args.arcs.now (get_or c.args.dropped.now c.dropped.k 0) in
    let are = subst (λ (u : List ℕ). AreTops u c.merge.new.tops) c.as_slice-up.ensures c.merge.ensures.tops in
    let by_up = subst (λ (u : List ℕ). AtEnds (Merges u c.dropped.tops c.merge.new.tops) c.as_slice-place.result.now arc) c.as_slice-up.ensures c.merge.ensures.merges in
    let merges = subst (λ (p : List ℕ). AtEnds (Merges c.args.layout.now.up c.dropped.tops c.merge.new.tops) p arc) c.as_slice-place.ensures by_up in
    merged_more c.args.layout.now.up c.args.layout.now.place c.args.arcs.now c.args.dropped.now c.dropped.k c.args.tops.now c.dropped.tops c.merge.new.tops c.dropped.invariant are merges
