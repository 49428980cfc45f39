-- The least over the times that were gone through.
use Rattle.std.proofs.Common.{◌+◌, get_or}
use Rattle.service_model.specs.Plans.{charge}
use Rattle.tree_tables.specs.Leasts.{IsLeast}
use Rattle.tree_tables.proofs.local.least_between.Given as goal

abbrev pub invariant-times : goal.invariant-times
invariant-times l = IsLeast (λ k. charge l.early l.cost k l.late + get_or l.sums k 0) l.from l.k l.least
