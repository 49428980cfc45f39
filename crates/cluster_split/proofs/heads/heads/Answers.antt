-- The forest is laid out, all dropped arcs are merged, and the tops that are left tell the clusters.
use Rattle.std.proofs.Common.{ℕ, ◌≡◌, ◌∙◌, ◌<◌, ◌^◌, List, length, sym, subst, arith}
use Rattle.std.specs.Prelude.{All}
use Rattle.std.proofs.lemmas.List.{get_or_default}
use Rattle.std.proofs.lemmas.Result.{IfOk-weaker}
use Rattle.service_model.specs.declared.stage.SupplyArc.{SupplyArc}
use Rattle.tree_order.proofs.ForestLaws.{each_long, order_each, parent_is_stage}
use Rattle.cluster_split.specs.Places.{AreMerged, AreHeads, TellClusters}
use Rattle.cluster_split.specs.Layouts.{CanMerge}
use Rattle.cluster_split.proofs.TopFacts.{own_are, tops_fall}
use Rattle.cluster_split.proofs.TreeFacts.{laid_out, up_long, up_falls, can_merge}
use Rattle.cluster_split.proofs.BridgeFacts.{IsWhole}
use Rattle.cluster_split.proofs.HeadFacts.{heads_long, heads_tell}
use Rattle.cluster_split.proofs.heads.heads.Goals as goal

pub new-requires-clause-few : goal.new-requires-clause-few
new-requires-clause-few c =
    let n = c.args.network.now in
    let f = c.in_ok-forest.forest in
    omega (arith, each_long (length n.stages) f.order (order_each (length n.stages) n.arcs f c.in_ok-forest.ensures.forest), c.arcs.ensures.valid.few_stages)

pub new-requires-clause-parents : goal.new-requires-clause-parents
new-requires-clause-parents c =
    let n = c.args.network.now in
    let f = c.in_ok-forest.forest in
    let long = c.in_ok-forest.ensures.forest.walk.long in
    λ k d inside. omega (arith, parent_is_stage (length n.stages) n.arcs f c.in_ok-forest.ensures.forest k (omega (arith, inside, long)), get_or_default f.parent k d 0 inside, long)

pub own_tops-requires : goal.own_tops-requires
own_tops-requires c =
    let n = c.args.network.now in
    let l = c.in_ok-layout.layout in
    let laid = laid_out n c.in_ok-forest.forest l c.arcs.ensures.valid c.in_ok-forest.ensures.forest c.in_ok-layout.ensures in
    omega (arith, c.len.ensures, up_long n c.in_ok-forest.forest l.place l.up laid, c.arcs.ensures.valid.few_stages)

pub merge_all-requires-clause-tops : goal.merge_all-requires-clause-tops
merge_all-requires-clause-tops c =
    let l = c.in_ok-layout.layout in
    own_are l.up c.in_ok-tops.tops (c.in_ok-tops.ensures.long ∙ c.len.ensures) (λ k low. c.in_ok-tops.ensures.own k (omega (arith, low, c.len.ensures)))

pub merge_all-requires-clause-ready : goal.merge_all-requires-clause-ready
merge_all-requires-clause-ready c =
    let n = c.args.network.now in
    let f = c.in_ok-forest.forest in
    let l = c.in_ok-layout.layout in
    let laid = laid_out n f l c.arcs.ensures.valid c.in_ok-forest.ensures.forest c.in_ok-layout.ensures in
    let arcs : c.as_slice-arcs.result.now ≡ c.args.network.now.arcs = c.as_slice-arcs.ensures ∙ c.arcs.ensures.value in
    subst (λ (d : List ℕ). CanMerge l.up l.place c.as_slice-arcs.result.now d) (sym c.as_slice.ensures)
    (subst (λ (a : List SupplyArc). CanMerge l.up l.place a f.dropped) (sym arcs) (can_merge n f l.place l.up laid))

pub heads_of-requires-clause-falls : goal.heads_of-requires-clause-falls
heads_of-requires-clause-falls c =
    let n = c.args.network.now in
    let l = c.in_ok-layout.layout in
    let laid = laid_out n c.in_ok-forest.forest l c.arcs.ensures.valid c.in_ok-forest.ensures.forest c.in_ok-layout.ensures in
    tops_fall l.up c.merge_all.new.tops (up_falls n c.in_ok-forest.forest l.place l.up laid) c.merge_all.ensures.tops

pub heads_of-requires-clause-places : goal.heads_of-requires-clause-places
heads_of-requires-clause-places c =
    let n = c.args.network.now in
    let l = c.in_ok-layout.layout in
    let laid = laid_out n c.in_ok-forest.forest l c.arcs.ensures.valid c.in_ok-forest.ensures.forest c.in_ok-layout.ensures in
    let low = subst (λ (p : List ℕ). All (λ k. k < length c.in_ok-layout.layout.up) p) (sym c.as_slice-2.ensures) (can_merge n c.in_ok-forest.forest l.place l.up laid).places in
    λ k d inside. omega (arith, low k d inside, c.merge_all.ensures.tops.long)

pub returns-clause-tell : goal.returns-clause-tell
returns-clause-tell c =
    let n = c.args.network.now in
    let f = c.in_ok-forest.forest in
    let l = c.in_ok-layout.layout in
    let laid = laid_out n f l c.arcs.ensures.valid c.in_ok-forest.ensures.forest c.in_ok-layout.ensures in
    let arcs : c.as_slice-arcs.result.now ≡ c.args.network.now.arcs = c.as_slice-arcs.ensures ∙ c.arcs.ensures.value in
    let by_arcs = subst (λ (a : List SupplyArc). AreMerged l.up l.place a c.as_slice.result.now (length c.as_slice.result.now) c.in_ok-tops.tops c.merge_all.new.tops) arcs c.merge_all.ensures in
    let merged = subst (λ (d : List ℕ). AreMerged l.up l.place n.arcs d (length d) c.in_ok-tops.tops c.merge_all.new.tops) c.as_slice.ensures by_arcs in
    let whole : IsWhole n f l.place l.up c.in_ok-tops.tops c.merge_all.new.tops =
    record { laid = laid; alone = λ k low. c.in_ok-tops.ensures.own k (omega (arith, low, c.len.ensures)); merged = merged } in
    IfOk-weaker c.heads_of.result (AreHeads c.merge_all.new.tops c.as_slice-2.result.now) (TellClusters (length n.stages) n.arcs)
    (λ heads are. heads_tell n f l.place l.up c.in_ok-tops.tops c.merge_all.new.tops heads whole (subst (λ (p : List ℕ). AreHeads c.merge_all.new.tops p heads) c.as_slice-2.ensures are)) c.heads_of.ensures

pub returns-clause-few : goal.returns-clause-few
returns-clause-few c =
    let n = c.args.network.now in
    let l = c.in_ok-layout.layout in
    let laid = laid_out n c.in_ok-forest.forest l c.arcs.ensures.valid c.in_ok-forest.ensures.forest c.in_ok-layout.ensures in
    IfOk-weaker c.heads_of.result (AreHeads c.merge_all.new.tops c.as_slice-2.result.now) (λ heads. length heads < 2 ^ 32)
    (λ heads are. omega (arith, heads_long n c.in_ok-forest.forest l.place l.up c.merge_all.new.tops heads laid (subst (λ (p : List ℕ). AreHeads c.merge_all.new.tops p heads) c.as_slice-2.ensures are), c.arcs.ensures.valid.few_stages))
    c.heads_of.ensures
