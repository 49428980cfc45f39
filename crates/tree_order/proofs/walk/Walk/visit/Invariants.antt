-- The visit is within its place, by the links that were gone through, and more may be seen.
use Rattle.tree_order.specs.Walks.{Grows}
use Rattle.tree_order.proofs.StepFacts.{Within}
use Rattle.tree_order.proofs.walk.Walk.visit.Given as goal

abbrev pub invariant-links : goal.invariant-links
invariant-links l = record {
  within : Within l.links.stages l.links.arcs.now l.number-items l.number-index l.at l.self;
  grows : Grows l.initial.self.seen l.self.seen;
}
