use Rattle.std.proofs.Common.{ℕ, ◌<◌}
use Rattle.service_model.specs.Tables.{table_at, IsShaped}
use Rattle.split_rules.proofs.tests.are_shaped.Given as goal

abbrev pub invariant-tables : goal.invariant-tables
invariant-tables l = (k : ℕ) → k < l.number → IsShaped l.network l.tables k (table_at l.tables k)
