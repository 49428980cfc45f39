use Rattle.std.proofs.Common.{take}
use Rattle.service_model.specs.Net.{net_of}
use Rattle.end_rules.specs.Times.{AreNeeds}
use Rattle.end_rules.proofs.raise_lower.needs.Given as goal

abbrev pub invariant-arcs : goal.invariant-arcs
invariant-arcs l = AreNeeds (net_of l.network.horizon l.network.stages (take l.a l.network.arcs)) l.plan l.times
