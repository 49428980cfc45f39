-- The arcs at each stage.
use Rattle.std.specs.Prelude.{◌≡◌, ◌≢◌, ℕ, ◌<◌, ◌⊎◌, ◌==◌, if◌then◌else◌, List, All}
use Rattle.service_model.specs.declared.stage.SupplyArc.{SupplyArc}
use Rattle.service_model.specs.Net.{arc_in}
use Rattle.service_model.specs.Forests.{ArePickedFor}

-- each arc joins two different stages
abbrev pub JoinsStages : ℕ → List SupplyArc → Type 0
JoinsStages stages arcs = All (λ a. (a.supplier < stages) × (a.customer < stages) × (a.supplier ≢ a.customer)) arcs

-- a stage is an end of the arc
abbrev pub Touches : SupplyArc → ℕ → Type 0
Touches a x = (a.supplier ≡ x) ⊎ (a.customer ≡ x)

-- the end of the arc that is not stage x
abbrev pub other_end : SupplyArc → ℕ → ℕ
other_end a x = if a.supplier == x then a.customer else a.supplier

-- each stage has a list of those of the first n arcs that touch it
abbrev pub HasLinks : ℕ → List SupplyArc → ℕ → List (List ℕ) → Type 0
HasLinks stages arcs n lists = ArePickedFor (λ x a. Touches (arc_in arcs a) x) stages n lists
