use Rattle.std.proofs.Common.{take}
use Rattle.service_model.specs.Net.{net_of}
use Rattle.service_model.specs.Ranges.{AreFloors}
use Rattle.service_model.proofs.network.Network.floors.Given as goal

abbrev pub invariant-arcs : goal.invariant-arcs
invariant-arcs l = AreFloors (net_of l.self.horizon l.self.stages (take l.a l.self.arcs)) l.range l.floors
