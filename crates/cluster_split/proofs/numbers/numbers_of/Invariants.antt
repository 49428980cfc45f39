-- The stages that were gone through have their numbers.
use Rattle.cluster_split.proofs.NumberFacts.{Numbering}
use Rattle.cluster_split.proofs.numbers.numbers_of.Given as goal

abbrev pub invariant-stages : goal.invariant-stages
invariant-stages l = Numbering l.heads l.x l.last l.given l.numbers
