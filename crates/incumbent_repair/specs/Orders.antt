-- Orders in which the shift may go along the stages.
use Rattle.std.specs.Prelude.{◌≡◌, ℕ, ◌<◌, List, length, slice_index, Contains}
use Rattle.service_model.specs.Net.{Net}
use Rattle.service_model.specs.Walks.{Leads}

-- the order has each stage once, and suppliers before customers
pub record HasSuppliersFirst (n : Net) (order : List ℕ) : Type 0 where
  pub stages : (p : ℕ) → p < length order → slice_index order p < length n.stages
  pub each : (j : ℕ) → j < length n.stages → Contains order j
  pub once : (p q : ℕ) → p < length order → q < length order → slice_index order p ≡ slice_index order q → p ≡ q
  pub first : (p q : ℕ) → p < length order → q < length order → Leads n.arcs (slice_index order p) (slice_index order q) → p < q
