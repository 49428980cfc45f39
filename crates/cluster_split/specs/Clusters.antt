-- Where a network is entangled: its bridges and its clusters, by the joins between stages.
use Rattle.std.specs.Prelude.{◌≡◌, ◌≢◌, ℕ, zero, suc, ◌<◌, ◌≤◌, ◌↔◌, List, length, slice_index}
use Rattle.service_model.specs.declared.stage.SupplyArc.{SupplyArc}
use Rattle.service_model.specs.Net.{arc_in}
use Rattle.service_model.specs.Forests.{Joins, ArePicked}

-- so many arcs of which P holds join two stages, one after the other
abbrev pub JoinedBy : (ℕ → Type 0) → List SupplyArc → ℕ → ℕ → ℕ → Type 0
JoinedBy P arcs x y zero = x ≡ y
JoinedBy P arcs x y (suc n) =
    (m : ℕ) × JoinedBy P arcs x m n × ((a : ℕ) × (a < length arcs) × P a × Joins (arc_in arcs a) m y)

-- no other arcs join the ends of arc a
abbrev pub IsBridge : List SupplyArc → ℕ → Type 0
IsBridge arcs a = (n : ℕ) → ¬ JoinedBy (λ b. b ≢ a) arcs (arc_in arcs a).supplier (arc_in arcs a).customer n

-- arcs that are no bridges join two stages
abbrev pub SameCluster : List SupplyArc → ℕ → ℕ → Type 0
SameCluster arcs x y = (n : ℕ) × JoinedBy (λ b. ¬ IsBridge arcs b) arcs x y n

-- the numbers of the bridges, rising
abbrev pub AreBridges : List SupplyArc → List ℕ → Type 0
AreBridges arcs bridges = ArePicked (IsBridge arcs) (length arcs) bridges

-- the number of each stage's cluster
pub record AreClusters (stages : ℕ) (arcs : List SupplyArc) (numbers : List ℕ) : Type 0 where
  pub long : length numbers ≡ stages
  pub same : (x y : ℕ) → x < stages → y < stages → (slice_index numbers x ≡ slice_index numbers y) ↔ SameCluster arcs x y
  pub from_one : (x : ℕ) → x < stages → 1 ≤ slice_index numbers x
  -- by their lowest stage: each lesser number stands at an earlier stage
  pub by_lowest : (x m : ℕ) → x < stages → 1 ≤ m → m < slice_index numbers x → (y : ℕ) × (y < x) × (slice_index numbers y ≡ m)

-- no other list has the bridges
abbrev pub AreOnlyBridges : List SupplyArc → List ℕ → Type 0
AreOnlyBridges arcs bridges = (other : List ℕ) → AreBridges arcs other → other ≡ bridges

-- no other list numbers the clusters
abbrev pub AreOnlyClusters : ℕ → List SupplyArc → List ℕ → Type 0
AreOnlyClusters stages arcs numbers = (other : List ℕ) → AreClusters stages arcs other → other ≡ numbers
