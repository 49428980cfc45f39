-- The children of the next arc get their kinds; after all arcs each child has one.
use Rattle.std.proofs.Common.{◌≡◌, ◌<◌, length, ap, arith, rules}
use Rattle.service_model.specs.Net.{arc_in}
use Rattle.arc_relax.proofs.KindFacts.{marked_more, marked_all}
use Rattle.arc_relax.proofs.kinds.kinds_of.Goals as goal

pub arcs-preserved : goal.arcs-preserved
arcs-preserved c =
    let n = c.args.network.now in
    let a = c.arcs.a in
    let within : a < length n.arcs = search rules in
    let arc : c.get-arc.result.now ≡ arc_in n.arcs a = search rules in
    marked_more n.arcs c.args.forest.now.parent (length n.stages) a c.arcs.kinds c.set_if.new.kinds c.set_if-in-arcs.new.kinds c.arcs.invariant within
    (c.arcs-arcs.ensures.valid.arcs a within) c.requires.walk.long
    (rw (arc, c.as_slice-parent.ensures) at c.set_if.ensures)
    (rw (arc, c.as_slice-parent.ensures) at c.set_if-in-arcs.ensures)

pub returns-clause-kinds : goal.returns-clause-kinds
returns-clause-kinds c =
    marked_all c.args.network.now c.args.forest.now c.arcs.kinds c.arcs.a c.requires c.arcs.invariant
    (omega (arith, c.arcs-test.false, c.len-a-end.ensures, ap length c.arcs-arcs.ensures.value))
