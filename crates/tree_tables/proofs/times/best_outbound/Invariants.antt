-- The best of the outbound times that were gone through.
use Rattle.tree_tables.specs.Sums.{local_at}
use Rattle.tree_tables.proofs.TimeFacts.{IsBestRow}
use Rattle.tree_tables.proofs.times.best_outbound.Given as goal

abbrev pub invariant-times : goal.invariant-times
invariant-times l = IsBestRow (local_at l.sums) l.window.from l.window.to l.window.least l.outbound l.best l.lowest
