-- The arcs between two clusters are the bridges.
use Rattle.std.proofs.Common.{ℕ, ◌≡◌, ◌≢◌, ◌∙◌, List, length, get_or, subst}
use Rattle.service_model.specs.declared.stage.SupplyArc.{SupplyArc}
use Rattle.service_model.specs.Net.{arc_in}
use Rattle.service_model.specs.Forests.{ArePicked}
use Rattle.cluster_split.proofs.ClusterLaws.{bridges_from, only_bridges}
use Rattle.cluster_split.proofs.split.split_of.Goals as goal

pub returns-clause-bridges : goal.returns-clause-bridges
returns-clause-bridges c =
    let n = c.args.network.now in
    let arcs : c.as_slice.result.now ≡ c.args.network.now.arcs = c.as_slice.ensures ∙ c.arcs.ensures.value in
    let by_arcs = subst (λ (a : List SupplyArc). ArePicked (λ k. get_or c.as_slice-2.result.now (arc_in a k).supplier 0 ≢ get_or c.as_slice-2.result.now (arc_in a k).customer 0) (length a) c.in_ok-bridges.bridges) arcs c.in_ok-bridges.ensures in
    let picked = subst (λ (s : List ℕ). ArePicked (λ k. get_or s (arc_in n.arcs k).supplier 0 ≢ get_or s (arc_in n.arcs k).customer 0) (length n.arcs) c.in_ok-bridges.bridges) c.as_slice-2.ensures by_arcs in
    bridges_from n c.in_ok-clusters.clusters c.in_ok-bridges.bridges c.arcs.ensures.valid c.in_ok-clusters.ensures.clusters picked

pub returns-clause-only_bridges : goal.returns-clause-only_bridges
returns-clause-only_bridges c =
    let n = c.args.network.now in
    let arcs : c.as_slice.result.now ≡ c.args.network.now.arcs = c.as_slice.ensures ∙ c.arcs.ensures.value in
    let by_arcs = subst (λ (a : List SupplyArc). ArePicked (λ k. get_or c.as_slice-2.result.now (arc_in a k).supplier 0 ≢ get_or c.as_slice-2.result.now (arc_in a k).customer 0) (length a) c.in_ok-bridges.bridges) arcs c.in_ok-bridges.ensures in
    let picked = subst (λ (s : List ℕ). ArePicked (λ k. get_or s (arc_in n.arcs k).supplier 0 ≢ get_or s (arc_in n.arcs k).customer 0) (length n.arcs) c.in_ok-bridges.bridges) c.as_slice-2.ensures by_arcs in
    only_bridges n.arcs c.in_ok-bridges.bridges (bridges_from n c.in_ok-clusters.clusters c.in_ok-bridges.bridges c.arcs.ensures.valid c.in_ok-clusters.ensures.clusters picked)
