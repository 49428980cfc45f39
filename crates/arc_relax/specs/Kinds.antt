-- The kinds of the stages' tables.
use Rattle.std.specs.Prelude.{◌≡◌, ◌≢◌, ℕ, ◌<◌, ◌⊎◌, List, length, slice_index, slice_index_or}
use Rattle.service_model.specs.declared.stage.SupplyArc.{SupplyArc}
use Rattle.service_model.specs.declared.table.Kind.{Kind}
use Rattle.service_model.specs.declared.table.Kind.TheVariants.{Root}
use Rattle.service_model.specs.Net.{arc_in}
use Rattle.service_model.specs.Relaxed.{IsKindOf}

-- the kind of the table of stage j
abbrev pub kind_at : List Kind → ℕ → Kind
kind_at kinds j = slice_index_or kinds j Root

-- the kind of each stage's table
pub record AreKinds (arcs : List SupplyArc) (parent : List ℕ) (kinds : List Kind) : Type 0 where
  pub long : length kinds ≡ length parent
  pub each : (j : ℕ) → j < length parent → IsKindOf arcs parent j (kind_at kinds j)

-- after the first arcs: a kind other than Root is right, and each child that one of these arcs joins to its parent has one
pub record AreMarked (arcs : List SupplyArc) (parent : List ℕ) (count : ℕ) (kinds : List Kind) : Type 0 where
  pub long : length kinds ≡ length parent
  pub right : (j : ℕ) → j < length parent → (kind_at kinds j ≡ Root) ⊎ IsKindOf arcs parent j (kind_at kinds j)
  pub suppliers : (a : ℕ) → a < count → slice_index parent (arc_in arcs a).supplier ≡ (arc_in arcs a).customer → kind_at kinds (arc_in arcs a).supplier ≢ Root
  pub customers : (a : ℕ) → a < count → slice_index parent (arc_in arcs a).customer ≡ (arc_in arcs a).supplier → kind_at kinds (arc_in arcs a).customer ≢ Root
