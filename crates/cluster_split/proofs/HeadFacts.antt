-- Stages have one head exactly where they are of one cluster.
use Rattle.std.proofs.Common.{ℕ, ◌≡◌, ◌<◌, List, length, get_or, reverse, sym, ◌∙◌, subst, arith}
use Rattle.std.specs.Prelude.{All}
use Rattle.std.proofs.lemmas.List.{get_or_default}
use Rattle.service_model.specs.Net.{Net}
use Rattle.tree_order.specs.declared.forest.Forest.{Forest}
use Rattle.cluster_split.specs.Clusters.{IsBridge, SameCluster}
use Rattle.cluster_split.specs.Tops.{Reaches, IsTop, Alike}
use Rattle.cluster_split.specs.Places.{AreHeads, TellClusters}
use Rattle.cluster_split.proofs.ReachFacts.{reach_le}
use Rattle.cluster_split.proofs.TopFacts.{alike_back, alike_trans, alike_reach, above_reach, alike_tops}
use Rattle.cluster_split.proofs.JoinFacts.{linked_trans, linked_back, across_all}
use Rattle.cluster_split.proofs.TreeFacts.{IsLaid, seen_long, stage_here, place_here, up_falls, way_joins}
use Rattle.cluster_split.proofs.BridgeFacts.{IsWhole, Below, arc_below, top_bridge, covered}

-- what arcs that are no bridges join stands below the same tops
below_on : (n : Net) (f : Forest) (place up own tops : List ℕ) → IsWhole n f place up own tops → (x y : ℕ) → SameCluster n.arcs x y → (h : ℕ) → IsTop tops h → Below place up h x → Below place up h y
below_on n f place up own tops whole x y (k, chain) h top =
    across_all (Below place up h) (λ a. IsBridge n.arcs a → ⊥) n.arcs
    (λ a inside no_bridge. arc_below n f place up own tops whole h top a inside
    (λ z low is child joins. no_bridge (top_bridge n f place up own tops whole z low child (subst (λ v. IsTop tops v) (sym is) top) a inside joins)))
    k x y chain

cluster_alike : (n : Net) (f : Forest) (place up own tops : List ℕ) → IsWhole n f place up own tops → (x y : ℕ) → SameCluster n.arcs x y → Alike up tops (get_or place x 0) (get_or place y 0)
cluster_alike n f place up own tops whole x y same h top =
    (below_on n f place up own tops whole x y same h top, below_on n f place up own tops whole y x (linked_back (λ a. IsBridge n.arcs a → ⊥) n.arcs x y same) h top)

-- a stage is joined to its top by arcs that are no bridges
top_joined : (n : Net) (f : Forest) (place up own tops : List ℕ) → IsWhole n f place up own tops → (x y : ℕ) → x < length n.stages → y < length n.stages
    → Reaches up (get_or place x 0) (get_or place y 0) → Alike up tops (get_or place x 0) (get_or place y 0) → SameCluster n.arcs x y
top_joined n f place up own tops whole x y low high r alike =
    way_joins n f place up whole.laid (λ a. IsBridge n.arcs a → ⊥) x y low high r
    (λ z z_low to past child a tie.
    (covered n f place up own tops whole z z_low (λ top. omega (arith, past, reach_le up (get_or place y 0) (get_or place z 0) (up_falls n f place up whole.laid) ((alike (get_or place z 0) top).0 to)))).1
    a tie.inside tie.joins)

-- each stage's head is a top above it, and stands below the same tops
pub record IsHead (place up tops : List ℕ) (x h : ℕ) : Type 0 where
  pub top : IsTop tops h
  pub above : Reaches up (get_or place x 0) h
  pub alike : Alike up tops (get_or place x 0) h

head_of : (n : Net) (f : Forest) (place up own tops heads : List ℕ) → IsWhole n f place up own tops → AreHeads tops place heads → (x : ℕ) → x < length heads → IsHead place up tops x (get_or heads x 0)
head_of n f place up own tops heads whole are x inside =
    let h = are.each x inside in
    record {
      top = h.1;
      above = above_reach up tops (get_or place x 0) (get_or heads x 0) whole.merged.tops h.0;
      alike = alike_reach up tops (get_or place x 0) (get_or heads x 0) whole.merged.tops h.0;
    }

one_head : (n : Net) (f : Forest) (place up own tops heads : List ℕ) → IsWhole n f place up own tops → (x y h g : ℕ) → IsHead place up tops x h → IsHead place up tops y g → SameCluster n.arcs x y → h ≡ g
one_head n f place up own tops heads whole x y h g one two same =
    alike_tops up tops h g (up_falls n f place up whole.laid) one.top two.top
    (alike_trans up tops h (get_or place x 0) g (alike_back up tops (get_or place x 0) h one.alike)
    (alike_trans up tops (get_or place x 0) (get_or place y 0) g (cluster_alike n f place up own tops whole x y same) two.alike))

head_low : (n : Net) (f : Forest) (place up own tops : List ℕ) → IsWhole n f place up own tops → (x h : ℕ) → x < length n.stages → IsHead place up tops x h → h < length n.stages
head_low n f place up own tops whole x h low head =
    omega (arith, reach_le up (get_or place x 0) h (up_falls n f place up whole.laid) head.above, (stage_here n f place up whole.laid x low).0)

head_joined : (n : Net) (f : Forest) (place up own tops : List ℕ) → IsWhole n f place up own tops → (x h : ℕ) → x < length n.stages → IsHead place up tops x h → SameCluster n.arcs x (get_or (reverse f.order) h 0)
head_joined n f place up own tops whole x h low head =
    let here = place_here n f place up whole.laid h (head_low n f place up own tops whole x h low head) in
    top_joined n f place up own tops whole x (get_or (reverse f.order) h 0) low here.0
    (subst (λ v. Reaches up (get_or place x 0) v) (sym here.1) head.above)
    (subst (λ v. Alike up tops (get_or place x 0) v) (sym here.1) head.alike)

low_from : (xs : List ℕ) (n : ℕ) → ((k : ℕ) → k < length xs → get_or xs k 0 < n) → All (λ v. v < n) xs
low_from xs n low = λ k d inside. omega (arith, low k inside, get_or_default xs k d 0 inside)

pub heads_long : (n : Net) (f : Forest) (place up tops heads : List ℕ) → IsLaid n f place up → AreHeads tops place heads → length heads ≡ length n.stages
heads_long n f place up tops heads laid are = are.long ∙ laid.places.long ∙ seen_long n f place up laid

pub heads_tell : (n : Net) (f : Forest) (place up own tops heads : List ℕ) → IsWhole n f place up own tops → AreHeads tops place heads → TellClusters (length n.stages) n.arcs heads
heads_tell n f place up own tops heads whole are =
    let long = heads_long n f place up tops heads whole.laid are in
    record {
      long = long;
      low = low_from heads (length n.stages) (λ x inside. head_low n f place up own tops whole x (get_or heads x 0) (omega (arith, inside, long)) (head_of n f place up own tops heads whole are x inside));
      same = λ x y low high.
          let one = head_of n f place up own tops heads whole are x (omega (arith, low, long)) in
          let two = head_of n f place up own tops heads whole are y (omega (arith, high, long)) in (
            λ is.
                let joined = head_joined n f place up own tops whole x (get_or heads x 0) low one in
                let joined' = subst (λ v. SameCluster n.arcs y (get_or (reverse f.order) v 0)) (sym is) (head_joined n f place up own tops whole y (get_or heads y 0) high two) in
                linked_trans (λ a. IsBridge n.arcs a → ⊥) n.arcs x (get_or (reverse f.order) (get_or heads x 0) 0) y joined
                (linked_back (λ a. IsBridge n.arcs a → ⊥) n.arcs y (get_or (reverse f.order) (get_or heads x 0) 0) joined'),
            λ same. one_head n f place up own tops heads whole x y (get_or heads x 0) (get_or heads y 0) one two same,
          );
    }
