-- The place of the least value, of a Down and of an Up child.
use Rattle.std.proofs.Common.{◌≡◌, length, ap, arith}
use Rattle.service_model.specs.Tables.{transit_in}
use Rattle.tree_tables.proofs.PlaceFacts.{down_place, up_place}
use Rattle.tree_tables.proofs.places.child_place.Goals as goal

pub returns-in-Down : goal.returns-in-Down
returns-in-Down c =
    let n = c.args.network.now in
    let child = c.args.child.now in
    let t = c.args.parent.now in
    let transit : c.transit_between-transit.result ≡ transit_in n.arcs child.stage t.stage = c.transit_between-transit.ensures.value in
    let long = ap length c.as_slice-values.ensures in
    down_place n child t c.args.times.inbound c.args.times.outbound _ c.min.result c.as_slice-values.result.now c.in-Down.is c.requires
    c.as_slice-values.ensures (omega (arith, transit, long))
    (record { not_before = c.least_place.ensures.not_before; not_after = c.least_place.ensures.not_after; least = c.least_place.ensures.least })

pub returns-in-Up : goal.returns-in-Up
returns-in-Up c =
    let n = c.args.network.now in
    let child = c.args.child.now in
    let t = c.args.parent.now in
    let transit : c.transit_between-transit-in-Up.result ≡ transit_in n.arcs t.stage child.stage = c.transit_between-transit-in-Up.ensures.value in
    let least = c.least_place-in-Up.ensures in
    up_place n child t c.args.times.inbound c.args.times.outbound _ c.saturating_sub-from.result (length c.as_slice-values.result.now)
    c.as_slice-values.result.now c.in-Up.is c.requires c.as_slice-values.ensures (omega (arith, transit)) (ap length c.as_slice-values.ensures)
    (record { not_before = least.not_before; not_after = least.not_after; least = least.least })
