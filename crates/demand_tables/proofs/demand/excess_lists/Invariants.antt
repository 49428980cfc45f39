use Rattle.demand_tables.proofs.CaseFacts.{SoFar}
use Rattle.demand_tables.proofs.demand.excess_lists.Given as goal

abbrev pub invariant-order : goal.invariant-order
invariant-order l = SoFar l.lookups.raw.now l.order l.k l.lists
