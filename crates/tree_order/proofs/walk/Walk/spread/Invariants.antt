-- The walk is between two visits, and more may be seen.
use Rattle.std.proofs.Common.{◌-◌}
use Rattle.tree_order.specs.Walks.{Between, Grows}
use Rattle.tree_order.proofs.walk.Walk.spread.Given as goal

abbrev pub invariant-turns : goal.invariant-turns
invariant-turns l = record {
  between : Between l.links l.at l.self;
  grows : Grows l.initial.self.seen l.self.seen;
}

abbrev pub decreases-turns : goal.decreases-turns
decreases-turns l = l.links.stages - l.at
