-- The walk over the tables at and below roots.
use Rattle.std.specs.Prelude.{◌≡◌, ℕ, List, Option, Some, None}
use Rattle.service_model.specs.declared.table.Table.{Table}
use Rattle.service_model.specs.Nodes.{below_roots, IsOnce}

-- the tables at and below the roots where no two of them are of one stage, none where two are
abbrev pub IsWalk : List Table → List ℕ → Option (List ℕ) → Type 0
IsWalk tables roots (Some met) = (met ≡ below_roots tables roots) × IsOnce tables met
IsWalk tables roots None = ¬ IsOnce tables (below_roots tables roots)
