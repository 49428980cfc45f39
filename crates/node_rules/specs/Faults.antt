-- The rules on the tables at and below the roots of a node.
use Rattle.std.specs.Prelude.{◌≡◌, ℕ, List, All, Option, Some, None, ◌⊎◌}
use Rattle.service_model.specs.declared.cert_rules.TheConstants.{FITS, STAGE_TWICE}
use Rattle.service_model.specs.declared.range.Range.{Range}
use Rattle.service_model.specs.declared.table.Table.{Table}
use Rattle.service_model.specs.Net.{Net}
use Rattle.service_model.specs.Tables.{table_at}
use Rattle.service_model.specs.Nodes.{below_roots, Fits, IsOnce}

-- these tables fit the range
abbrev pub AllFit : Net → Range → List Table → List ℕ → Type 0
AllFit n r tables ks = All (λ k. Fits n r (table_at tables k)) ks

-- the first of the rules on the tables at and below the roots that fails, none where both hold
abbrev pub IsBelowFault : Net → Range → List Table → List ℕ → Option ℕ → Type 0
IsBelowFault n r tables roots None = AllFit n r tables (below_roots tables roots) × IsOnce tables (below_roots tables roots)
IsBelowFault n r tables roots (Some rule) =
    ((rule ≡ FITS) × ¬ AllFit n r tables (below_roots tables roots))
    ⊎ ((rule ≡ STAGE_TWICE) × AllFit n r tables (below_roots tables roots) × ¬ IsOnce tables (below_roots tables roots))
