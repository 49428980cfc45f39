-- The pool holds the tables of the stages behind.
use Rattle.arc_relax.specs.StageTables.{AreMade}
use Rattle.arc_relax.proofs.tables.numbers_of.Given as goal

abbrev pub invariant-stages : goal.invariant-stages
invariant-stages g l =
    AreMade l.node.network.now l.node.range.now l.node.forest.now l.fn.pool l.pool l.fn.steps l.steps l.numbers.items l.stage-index
