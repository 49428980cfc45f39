-- A forest laid out by places, and what merging wants of it.
use Rattle.std.specs.Prelude.{ℕ, ◌<◌, List, length, slice_index, reverse, All}
use Rattle.service_model.specs.declared.stage.SupplyArc.{SupplyArc}
use Rattle.service_model.specs.Net.{arc_in}
use Rattle.tree_order.specs.declared.forest.Forest.{Forest}
use Rattle.cluster_split.specs.declared.places.Layout.{Layout}
use Rattle.cluster_split.specs.Tops.{Falls, SameTree}
use Rattle.cluster_split.specs.Places.{ArePlaces, AreUps, AtEnds}

-- the places of the forest's stages, in the order in which the walk saw them
pub record IsLayout (f : Forest) (l : Layout) : Type 0 where
  pub places : ArePlaces (reverse f.order) l.place
  pub ups : AreUps (reverse f.order) f.parent l.place l.up

-- the numbers are places and arcs that there are, no place leads to a later one, and the dropped arcs join places of one tree each
pub record CanMerge (up place : List ℕ) (arcs : List SupplyArc) (dropped : List ℕ) : Type 0 where
  pub falls : Falls up
  pub places : All (λ k. k < length up) place
  pub ends : All (λ a. (a.supplier < length place) × (a.customer < length place)) arcs
  pub numbers : All (λ a. a < length arcs) dropped
  pub trees : (i : ℕ) → i < length dropped → AtEnds (SameTree up) place (arc_in arcs (slice_index dropped i))
