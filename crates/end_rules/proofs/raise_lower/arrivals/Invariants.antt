use Rattle.std.proofs.Common.{take}
use Rattle.service_model.specs.Net.{net_of}
use Rattle.end_rules.specs.Times.{AreArrivals}
use Rattle.end_rules.proofs.raise_lower.arrivals.Given as goal

abbrev pub invariant-arcs : goal.invariant-arcs
invariant-arcs l = AreArrivals (net_of l.network.horizon l.network.stages (take l.a l.network.arcs)) l.plan l.times
