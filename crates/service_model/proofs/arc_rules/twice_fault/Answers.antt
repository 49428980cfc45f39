use Rattle.std.proofs.Common.{◌≡◌, true, false, sym, rules, ◌∙◌}
use Rattle.service_model.specs.Net.{arc_in}
use Rattle.service_model.specs.Ends.{has_ends}
use Rattle.service_model.specs.Faults.{stands_twice}
use Rattle.service_model.proofs.EndFacts.{twice_if_met, ends_more, not_twice_more, first_twice, none_twice}
use Rattle.service_model.proofs.arc_rules.twice_fault.Goals as goal

pub returns-then-not-branch : goal.returns-then-not-branch
returns-then-not-branch c =
    let arcs = c.args.arcs.now in
    let a = c.arcs.a in
    let met : has_ends c.arcs.met (arc_in arcs a) ≡ true = search rules in
    let twice : true ≡ stands_twice arcs a = twice_if_met arcs a true (sym met ∙ c.arcs.invariant.met (arc_in arcs a)) in
    first_twice arcs a c.arcs.invariant.none c.arcs-test.true (sym twice)

pub arcs-preserved : goal.arcs-preserved
arcs-preserved c =
    let arcs = c.args.arcs.now in
    let a = c.arcs.a in
    let new : has_ends c.arcs.met (arc_in arcs a) ≡ false = search rules in
    let once : false ≡ stands_twice arcs a = twice_if_met arcs a false (sym new ∙ c.arcs.invariant.met (arc_in arcs a)) in
    record {
      met = λ other. c.in_ok-insert_ends.ensures.met other ∙ ends_more arcs a other (has_ends c.arcs.met other) (c.arcs.invariant.met other) c.arcs-test.true;
      none = not_twice_more arcs a c.arcs.invariant.none (sym once);
    }

pub returns : goal.returns
returns c = none_twice c.args.arcs.now c.arcs.a c.arcs.invariant.none (search rules)
