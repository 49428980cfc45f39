-- The least over the times that were gone through.
use Rattle.table_rules.specs.Sums.{IsLeastSum}
use Rattle.table_rules.proofs.columns.least_sum.Given as goal

abbrev pub invariant-times : goal.invariant-times
invariant-times l = IsLeastSum l.cost l.down l.k l.least
