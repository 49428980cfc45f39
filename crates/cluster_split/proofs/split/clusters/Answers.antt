-- The heads tell the clusters, and the numbers are theirs.
use Rattle.std.proofs.Common.{ℕ, List, length, ap, subst, arith}
use Rattle.std.proofs.lemmas.Result.{IfOk-weaker}
use Rattle.cluster_split.specs.Clusters.{AreClusters, AreOnlyClusters}
use Rattle.cluster_split.specs.Numbers.{AreNumbers}
use Rattle.cluster_split.proofs.ClusterLaws.{clusters_from, only_clusters}
use Rattle.cluster_split.proofs.split.clusters.Goals as goal

pub numbers_of-requires-clause-few : goal.numbers_of-requires-clause-few
numbers_of-requires-clause-few c = omega (arith, ap length c.as_slice.ensures, c.in_ok-heads.ensures.few)

pub returns-clause-clusters : goal.returns-clause-clusters
returns-clause-clusters c =
    let n = c.args.network.now in
    IfOk-weaker c.numbers_of.result (AreNumbers c.as_slice.result.now) (AreClusters (length n.stages) n.arcs)
    (λ numbers are. clusters_from (length n.stages) n.arcs c.in_ok-heads.heads numbers c.in_ok-heads.ensures.tell (subst (λ (h : List ℕ). AreNumbers h numbers) c.as_slice.ensures are)) c.numbers_of.ensures

pub returns-clause-only : goal.returns-clause-only
returns-clause-only c =
    let n = c.args.network.now in
    IfOk-weaker c.numbers_of.result (AreNumbers c.as_slice.result.now) (AreOnlyClusters (length n.stages) n.arcs)
    (λ numbers are. only_clusters (length n.stages) n.arcs numbers (clusters_from (length n.stages) n.arcs c.in_ok-heads.heads numbers c.in_ok-heads.ensures.tell (subst (λ (h : List ℕ). AreNumbers h numbers) c.as_slice.ensures are)))
    c.numbers_of.ensures
