use Rattle.std.proofs.Common.{◌≡◌, ◌<◌, length, add-one, arith, rules}
use Rattle.service_model.specs.Net.{arc_in}
use Rattle.service_model.proofs.FloorFacts.{floors_more}
use Rattle.service_model.proofs.network.Network.floors.Goals as goal

pub arcs-preserved : goal.arcs-preserved
arcs-preserved c =
    let n = c.args.self.now in
    let k = c.arcs.a in
    let within : k < length n.arcs = search rules in
    let arc : c.get.result.now ≡ arc_in n.arcs k = search rules in
    let ends = (c.horizon.ensures.valid.arcs k within).customer in
    let there : (arc_in n.arcs k).customer < length c.arcs.floors = omega (arith, c.arcs.invariant.long) in
    rw add-one
    (floors_more n c.args.range.now k c.arcs.floors c.raise_floor.new.floors within there c.arcs.invariant
    (rw (arc, c.horizon.ensures.value) at c.raise_floor.ensures))
