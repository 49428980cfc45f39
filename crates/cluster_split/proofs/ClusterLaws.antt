-- Clusters from numbers, bridges from clusters, and that there is one list of each.
use Rattle.std.proofs.Common.{ℕ, zero, suc, ◌≡◌, ◌≢◌, ◌<◌, List, length, get_or, refl, sym, ◌∙◌, subst, inl, ⊎_elim, arith}
use Rattle.std.proofs.lemmas.Bool.{cases_lt}
use Rattle.std.proofs.lemmas.List.{ext_get_or}
use Rattle.service_model.specs.declared.stage.SupplyArc.{SupplyArc}
use Rattle.service_model.specs.Net.{Net, arc_in}
use Rattle.service_model.specs.Networks.{IsNetwork}
use Rattle.service_model.specs.Forests.{ArePicked}
use Rattle.tree_order.proofs.OneForest.{one_picked}
use Rattle.cluster_split.specs.Clusters.{IsBridge, AreBridges, AreClusters, AreOnlyBridges, AreOnlyClusters}
use Rattle.cluster_split.specs.Places.{TellClusters}
use Rattle.cluster_split.specs.Numbers.{AreNumbers}
use Rattle.cluster_split.proofs.JoinFacts.{linked_one, joined_as}

-- numbers by heads that tell clusters are the clusters'
pub clusters_from : (stages : ℕ) (arcs : List SupplyArc) (heads numbers : List ℕ) → TellClusters stages arcs heads → AreNumbers heads numbers → AreClusters stages arcs numbers
clusters_from stages arcs heads numbers tell are = record {
  long = are.long ∙ tell.long;
  same = λ x y low high.
      let mine = are.same x y (omega (arith, low, tell.long)) (omega (arith, high, tell.long)) in
      let told = tell.same x y low high in
      (λ is. told.0 (mine.0 is), λ same. mine.1 (told.1 same));
  from_one = λ x low. are.from_one x (omega (arith, low, tell.long));
  by_lowest = λ x m low one less. are.by_lowest x m (omega (arith, low, tell.long)) one less;
}

-- an arc is a bridge exactly where its ends are of two clusters

pub bridge_apart : (stages : ℕ) (arcs : List SupplyArc) (numbers : List ℕ) (a : ℕ) → AreClusters stages arcs numbers → (arc_in arcs a).supplier < stages → (arc_in arcs a).customer < stages → IsBridge arcs a
    → get_or numbers (arc_in arcs a).supplier 0 ≢ get_or numbers (arc_in arcs a).customer 0
bridge_apart stages arcs numbers a are low high bridge is =
    let same = (are.same (arc_in arcs a).supplier (arc_in arcs a).customer low high).0 is in
    bridge same.0 (joined_as (λ b. IsBridge arcs b → ⊥) (λ b. b ≢ a) arcs (λ b no_bridge here. no_bridge (subst (λ v. IsBridge arcs v) (sym here) bridge)) same.0 (arc_in arcs a).supplier (arc_in arcs a).customer same.1)

pub apart_bridge : (stages : ℕ) (arcs : List SupplyArc) (numbers : List ℕ) (a : ℕ) → AreClusters stages arcs numbers → a < length arcs → (arc_in arcs a).supplier < stages → (arc_in arcs a).customer < stages
    → get_or numbers (arc_in arcs a).supplier 0 ≢ get_or numbers (arc_in arcs a).customer 0 → IsBridge arcs a
apart_bridge stages arcs numbers a are inside low high apart m joined =
    apart ((are.same (arc_in arcs a).supplier (arc_in arcs a).customer low high).1
    (linked_one (λ b. IsBridge arcs b → ⊥) arcs (arc_in arcs a).supplier (arc_in arcs a).customer (a, inside, (λ bridge. bridge m joined), inl (refl, refl))))

-- so the arcs between stages of different numbers are the bridges
pub bridges_from : (n : Net) (numbers bridges : List ℕ) → IsNetwork n → AreClusters (length n.stages) n.arcs numbers
    → ArePicked (λ a. get_or numbers (arc_in n.arcs a).supplier 0 ≢ get_or numbers (arc_in n.arcs a).customer 0) (length n.arcs) bridges → AreBridges n.arcs bridges
bridges_from n numbers bridges valid are picked = record {
  rising = picked.rising;
  low = picked.low;
  only = λ a there.
      let inside : a < length n.arcs = subst (λ v. v < length n.arcs) there.2 (picked.low there.0 a there.1) in
      let arc = valid.arcs a inside in
      apart_bridge (length n.stages) n.arcs numbers a are inside arc.supplier arc.customer (picked.only a there);
  all = λ a inside bridge.
      let arc = valid.arcs a inside in
      picked.all a inside (bridge_apart (length n.stages) n.arcs numbers a are arc.supplier arc.customer bridge);
}

pub only_bridges : (arcs : List SupplyArc) (bridges : List ℕ) → AreBridges arcs bridges → AreOnlyBridges arcs bridges
only_bridges arcs bridges are other also = one_picked (IsBridge arcs) (length arcs) other bridges also are

-- one list of clusters: a lesser number at stage x would stand at an earlier stage, of the same cluster

not_less : (stages : ℕ) (arcs : List SupplyArc) (one two : List ℕ) (x : ℕ) → AreClusters stages arcs one → AreClusters stages arcs two → x < stages → ((y : ℕ) → y < x → get_or one y 0 ≡ get_or two y 0)
    → get_or one x 0 < get_or two x 0 → ⊥
not_less stages arcs one two x are also low earlier less =
    let y = also.by_lowest x (get_or one x 0) low (are.from_one x low) less in
    let y_low : y.0 < stages = omega (arith, y.1, low) in
    let same = (are.same y.0 x y_low low).0 (earlier y.0 y.1 ∙ y.2) in
    omega (arith, less, y.2, (also.same y.0 x y_low low).1 same)

same_number : (stages : ℕ) (arcs : List SupplyArc) (one two : List ℕ) → AreClusters stages arcs one → AreClusters stages arcs two → (fuel x : ℕ) → x < fuel → x < stages → get_or one x 0 ≡ get_or two x 0
same_number stages arcs one two are also zero x less low = absurd (omega arith)
same_number stages arcs one two are also (suc fuel) x less low =
    let earlier : (y : ℕ) → y < x → get_or one y 0 ≡ get_or two y 0 = λ y before. same_number stages arcs one two are also fuel y (omega (arith, before, less)) (omega (arith, before, low)) in
    ⊎_elim
    (λ below. absurd (not_less stages arcs one two x are also low earlier below))
    (λ past. ⊎_elim
    (λ above. absurd (not_less stages arcs two one x also are low (λ y before. sym (earlier y before)) above))
    (λ not_above. omega (arith, past, not_above))
    (cases_lt (get_or two x 0) (get_or one x 0)))
    (cases_lt (get_or one x 0) (get_or two x 0))

pub only_clusters : (stages : ℕ) (arcs : List SupplyArc) (numbers : List ℕ) → AreClusters stages arcs numbers → AreOnlyClusters stages arcs numbers
only_clusters stages arcs numbers are other also =
    ext_get_or 0 other numbers (also.long ∙ sym are.long) (λ x inside.
    let low : x < stages = omega (arith, inside, also.long) in
    same_number stages arcs other numbers also are (suc x) x (omega arith) low)
