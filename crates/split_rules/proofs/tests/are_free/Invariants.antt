use Rattle.std.proofs.Common.{◌≡◌, ℕ, ◌<◌}
use Rattle.std.specs.Prelude.{All}
use Rattle.service_model.specs.Tables.{table_at}
use Rattle.split_rules.proofs.tests.are_free.Given as goal

abbrev pub invariant-tables : goal.invariant-tables
invariant-tables l = (k : ℕ) → k < l.number → All (λ x. x ≡ 0) (table_at l.tables k).values
