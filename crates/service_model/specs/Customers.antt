-- The customers of each stage.
use Rattle.std.specs.Prelude.{◌≡◌, ℕ, ◌<◌, ◌==◌, if◌then◌else◌, List, [], ◌∷◌, length, slice_index_or, All}
use Rattle.service_model.specs.declared.stage.SupplyArc.{SupplyArc}

-- each arc's ends are stages
abbrev pub HasEnds : ℕ → List SupplyArc → Type 0
HasEnds stages arcs = All (λ a. (a.supplier < stages) × (a.customer < stages)) arcs

-- the customers of stage i, in the order of the arcs
abbrev pub customers_in : List SupplyArc → ℕ → List ℕ
customers_in [] i = []
customers_in (a ∷ arcs) i = if a.supplier == i then a.customer ∷ customers_in arcs i else customers_in arcs i

-- each stage has a list of its customers
pub record HasCustomers (stages : ℕ) (arcs : List SupplyArc) (lists : List (List ℕ)) : Type 0 where
  pub long : length lists ≡ stages
  pub each : (i : ℕ) → i < stages → slice_index_or lists i [] ≡ customers_in arcs i
