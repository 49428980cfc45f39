-- What was met and what is left of the walk; each turn sets a mark.
use Rattle.std.proofs.Common.{not}
use Rattle.std.specs.Prelude.{count_by}
use Rattle.node_rules.proofs.WalkFacts.{Walked}
use Rattle.node_rules.proofs.walks.walk.Given as goal

abbrev pub invariant-tables : goal.invariant-tables
invariant-tables l = Walked l.network l.tables l.roots l.met l.stack.items l.seen

abbrev pub decreases-tables : goal.decreases-tables
decreases-tables l = count_by (λ b. not b) l.seen
