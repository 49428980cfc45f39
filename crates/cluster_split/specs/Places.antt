-- The places of the stages in the order in which the walk saw them.
use Rattle.std.specs.Prelude.{◌≡◌, ℕ, ◌<◌, ◌↔◌, List, length, slice_index, All}
use Rattle.service_model.specs.declared.stage.SupplyArc.{SupplyArc}
use Rattle.service_model.specs.Net.{arc_in}
use Rattle.cluster_split.specs.Clusters.{SameCluster}
use Rattle.cluster_split.specs.Tops.{Reaches, IsTop, Alike, AreTops, Parts}

-- each stage has the place at which it stands
pub record ArePlaces (seen place : List ℕ) : Type 0 where
  pub long : length place ≡ length seen
  pub each : (k : ℕ) → k < length seen → slice_index place (slice_index seen k) ≡ k

-- each place has the place of its stage's parent
pub record AreUps (seen parent place up : List ℕ) : Type 0 where
  pub long : length up ≡ length seen
  pub each : (k : ℕ) → k < length seen → slice_index up k ≡ slice_index place (slice_index parent (slice_index seen k))

-- R holds of the places of the arc's ends
abbrev pub AtEnds : (ℕ → ℕ → Type 0) → List ℕ → SupplyArc → Type 0
AtEnds R place a = R (slice_index place a.supplier) (slice_index place a.customer)

-- the tops after the first so many of the dropped arcs: each joins places below the same tops, and parts those that are no tops any more
pub record AreMerged (up place : List ℕ) (arcs : List SupplyArc) (dropped : List ℕ) (count : ℕ) (old now : List ℕ) : Type 0 where
  pub tops : AreTops up now
  pub joined : (i : ℕ) → i < count → AtEnds (Alike up now) place (arc_in arcs (slice_index dropped i))
  pub only : (h : ℕ) → IsTop old h → ¬ IsTop now h → (i : ℕ) × (i < count) × AtEnds (Parts up h) place (arc_in arcs (slice_index dropped i))

-- each stage's head is the top to which its place leads
pub record AreHeads (tops place heads : List ℕ) : Type 0 where
  pub long : length heads ≡ length place
  pub each : (x : ℕ) → x < length heads → Reaches tops (slice_index place x) (slice_index heads x) × IsTop tops (slice_index heads x)

-- two stages have one head exactly where they are of one cluster
pub record TellClusters (stages : ℕ) (arcs : List SupplyArc) (heads : List ℕ) : Type 0 where
  pub long : length heads ≡ stages
  pub low : All (λ h. h < stages) heads
  pub same : (x y : ℕ) → x < stages → y < stages → (slice_index heads x ≡ slice_index heads y) ↔ SameCluster arcs x y
