use Rattle.std.proofs.Common.{◌≡◌, ◌<◌, length, add-one, arith, rules}
use Rattle.service_model.specs.Net.{arc_in}
use Rattle.incumbent_repair.proofs.TimeFacts.{needs_more}
use Rattle.incumbent_repair.proofs.raise_lower.needs.Goals as goal

pub arcs-preserved : goal.arcs-preserved
arcs-preserved c =
    let n = c.args.network.now in
    let k = c.arcs.a in
    let within : k < length n.arcs = search rules in
    let arc : c.get.result.now ≡ arc_in n.arcs k = search rules in
    let there : (arc_in n.arcs k).supplier < length c.arcs.times =
    omega (arith, c.arcs.invariant.long, (c.arcs-arcs.ensures.valid.arcs k within).supplier) in
    rw add-one (needs_more n c.args.plan.now k c.arcs.times c.lower_time.new.times within there c.arcs.invariant (rw arc at c.lower_time.ensures))
