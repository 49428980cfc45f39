use Rattle.std.proofs.Common.{◌≡◌, ◌-◌, length}
use Rattle.service_model.proofs.SearchedFacts.{Searched}
use Rattle.service_model.proofs.cycle.reaches_itself.Given as goal

abbrev pub invariant-turns : goal.invariant-turns
invariant-turns l = record {
  searched : Searched l.links.arcs.now l.stage l.at l.seen l.queue;
  long : length l.seen ≡ l.links.stages;
}

abbrev pub decreases-turns : goal.decreases-turns
decreases-turns l = l.links.stages - l.at
