use Rattle.std.proofs.Common.{◌-◌, length}
use Rattle.service_model.proofs.FrontFacts.{FrontSoFar}
use Rattle.service_model.proofs.order.front.Given as goal

abbrev pub invariant-turns : goal.invariant-turns
invariant-turns l = FrontSoFar l.links.stages l.links.arcs.now l.order l.ready l.waits

abbrev pub decreases-turns : goal.decreases-turns
decreases-turns l = l.links.stages - length l.order
