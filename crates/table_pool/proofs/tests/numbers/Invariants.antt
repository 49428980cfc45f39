-- The pool serves the network.
use Rattle.table_pool.specs.Pools.{IsPool}
use Rattle.table_pool.proofs.tests.numbers.Given as goal

abbrev pub invariant-asked : goal.invariant-asked
invariant-asked l = IsPool l.network l.pool
