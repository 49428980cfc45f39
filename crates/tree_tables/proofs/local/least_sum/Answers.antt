-- The times that are left out have no entry in the cost list.
use Rattle.std.proofs.Common.{arith}
use Rattle.tree_tables.proofs.LeastFacts.{least_entries}
use Rattle.tree_tables.proofs.local.least_sum.Goals as goal

pub returns : goal.returns
returns c =
    least_entries c.args.sums.now c.args.cost.now c.args.early c.args.late c.args.from c.clamp-first.result c.clamp-end.result c.args.to _
    c.least_between.ensures (omega arith) (omega arith) (λ k above below. omega arith) (λ k above below. omega arith)
