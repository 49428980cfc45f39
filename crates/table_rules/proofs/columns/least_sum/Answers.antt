-- One time more.
use Rattle.table_rules.proofs.ColumnFacts.{least_sum_more}
use Rattle.table_rules.proofs.columns.least_sum.Goals as goal

pub times-preserved : goal.times-preserved
times-preserved c = least_sum_more _ _ _ _ _ c.times.invariant c.min-least.ensures
