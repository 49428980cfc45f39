use Rattle.std.proofs.Common.{◌≡◌, take}
use Rattle.service_model.specs.Net.{stage_at}
use Rattle.service_model.specs.Ranges.{latest_start}
use Rattle.service_model.proofs.network.Network.floor.Given as goal

abbrev pub invariant-arcs : goal.invariant-arcs
invariant-arcs l = l.latest ≡ latest_start (take l.a l.self.arcs) l.range.least l.stage (stage_at l.self l.stage).supply
