-- The next arc is in the list exactly where its ends have two numbers.
use Rattle.std.proofs.Common.{◌≢◌, eqb, not, get_or}
use Rattle.std.proofs.lemmas.Bool.{both_ways, not-true, not-false, eqb-true, eq-eqb}
use Rattle.service_model.specs.Net.{arc_in}
use Rattle.cluster_split.proofs.NumberFacts.{picked_if}
use Rattle.cluster_split.proofs.numbers.arcs_between.Goals as goal

pub arcs-preserved : goal.arcs-preserved
arcs-preserved c =
    let numbers = c.args.numbers.now in
    let supplier = get_or c.args.numbers.now (arc_in c.args.arcs.now c.arcs.number).supplier 0 in
    let customer = get_or c.args.numbers.now (arc_in c.args.arcs.now c.arcs.number).customer 0 in
    picked_if (λ a. get_or c.args.numbers.now (arc_in c.args.arcs.now a).supplier 0 ≢ get_or c.args.numbers.now (arc_in c.args.arcs.now a).customer 0) c.arcs.number c.arcs.between c.push_if.new.numbers
    (not (eqb supplier customer)) c.arcs.invariant
    (λ on same. both_ways _ (not-true _ on) (eq-eqb supplier customer same))
    (λ off apart. apart (eqb-true supplier customer (not-false _ off)))
    c.in_ok-push_if.ensures
