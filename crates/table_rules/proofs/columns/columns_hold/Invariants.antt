-- The columns that were gone through hold.
use Rattle.std.proofs.Common.{ℕ, ◌<◌, ◌≤◌, get_or}
use Rattle.service_model.specs.Net.{stage_at}
use Rattle.table_rules.specs.Sums.{ColumnHolds}
use Rattle.table_rules.proofs.columns.columns_hold.Given as goal

abbrev pub invariant-times : goal.invariant-times
invariant-times l = (o : ℕ) → l.table.least ≤ o → o < l.outbound → ColumnHolds (stage_at l.network l.table.stage) l.down (get_or l.up o 0) l.table o
