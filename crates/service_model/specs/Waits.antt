-- How many suppliers each stage still waits for.
use Rattle.std.specs.Prelude.{◌≡◌, ℕ, ◌+◌, Bool, true, not, ◌&&◌, ◌==◌, ◌⊎◌, ◌↔◌, List, length, slice_index, Contains, count_by}
use Rattle.std.specs.List.{list_any}
use Rattle.service_model.specs.declared.stage.SupplyArc.{SupplyArc}

-- stage i is among those taken
abbrev pub is_taken : List ℕ → ℕ → Bool
is_taken taken i = list_any (λ k. i == k) taken

-- how many arcs lead to stage j from suppliers that are not taken
abbrev pub missing : List SupplyArc → List ℕ → ℕ → ℕ
missing arcs taken j = count_by (λ a. not (is_taken taken a.supplier) && (a.customer == j)) arcs

-- a stage came to the ready ones, if it was wanted
abbrev pub IsInsertedIf : ℕ → Bool → List ℕ → List ℕ → Type 0
IsInsertedIf stage wanted old new = (q : ℕ) → Contains new q ↔ (Contains old q ⊎ ((q ≡ stage) × (wanted ≡ true)))

-- each of these customers waits for one supplier less, and is ready where it waits for none
pub record Released (customers waits waits' ready ready' : List ℕ) : Type 0 where
  pub long : length waits' ≡ length waits
  pub fewer : (j : ℕ) → slice_index waits' j + count_by (λ c. c == j) customers ≡ slice_index waits j
  pub stay : (j : ℕ) → Contains ready j → Contains ready' j
  pub come : (j : ℕ) → Contains customers j → slice_index waits' j ≡ 0 → Contains ready' j
  pub only : (j : ℕ) → Contains ready' j → Contains ready j ⊎ (Contains customers j × (slice_index waits' j ≡ 0))
