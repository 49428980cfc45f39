-- Least values over intervals of numbers.
use Rattle.std.specs.Prelude.{◌≡◌, ℕ, ◌<◌, ◌≤◌, ◌⊎◌}
use Rattle.service_model.specs.declared.limits.TheConstants.{INF}

-- least is the least of INF and what f gives at the numbers from one on that are below another
pub record IsLeast (f : ℕ → ℕ) (from to least : ℕ) : Type 0 where
  pub lower : (k : ℕ) → from ≤ k → k < to → least ≤ f k
  pub capped : least ≤ INF
  pub reached : (least ≡ INF) ⊎ ((k : ℕ) × (from ≤ k) × (k < to) × (least ≡ f k))

-- the same at pairs of numbers, one of each interval
pub record IsLeastPair (f : ℕ → ℕ → ℕ) (from to from' to' least : ℕ) : Type 0 where
  pub lower : (i o : ℕ) → from ≤ i → i < to → from' ≤ o → o < to' → least ≤ f i o
  pub capped : least ≤ INF
  pub reached : (least ≡ INF) ⊎ ((i : ℕ) × (o : ℕ) × (from ≤ i) × (i < to) × (from' ≤ o) × (o < to') × (least ≡ f i o))
