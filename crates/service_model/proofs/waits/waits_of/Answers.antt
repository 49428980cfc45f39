use Rattle.std.proofs.Common.{arith, ℕ, ◌+◌, List, take, set, get_or, length, ◌∙◌, ap, sym}
use Rattle.std.proofs.lemmas.List.{length-set, length-take}
use Rattle.service_model.specs.Net.{no_arc, arc_in}
use Rattle.service_model.proofs.WaitFacts.{waits_more, missing_few}
use Rattle.service_model.proofs.waits.waits_of.Goals as goal

pub get-requires : goal.get-requires
get-requires c = omega (arith, c.loop-arc.invariant.long, (c.requires c.loop-arc.arc-index no_arc c.loop-arc-test.true).1)

pub overflow_add-more : goal.overflow_add-more
overflow_add-more c =
    let k = c.loop-arc.arc-index in
    let arcs = c.args.arcs.now in
    let at = (arc_in c.args.arcs.now c.loop-arc.arc-index).customer in
    let is = c.loop-arc.invariant.counts at (c.requires k no_arc c.loop-arc-test.true).1 in
    let few = missing_few (take k arcs) at k (omega (arith, length-take k arcs)) in
    omega (arith, c.get.ensures.whatever_else 0, is, few)

pub set-requires : goal.set-requires
set-requires c = omega (arith, c.loop-arc.invariant.long, (c.requires c.loop-arc.arc-index no_arc c.loop-arc-test.true).1)

pub loop-arc-preserved : goal.loop-arc-preserved
loop-arc-preserved c =
    let k = c.loop-arc.arc-index in
    let inv = c.loop-arc.invariant in
    record {
      long = ap length c.set.ensures ∙ length-set _ _ _ ∙ inv.long;
      counts = λ j within.
          ap (λ (xs : List ℕ). get_or xs j 0) c.set.ensures
          ∙ ap (λ x. get_or (set c.loop-arc.waits (arc_in c.args.arcs.now c.loop-arc.arc-index).customer (x + 1)) j 0) (sym (c.get.ensures.whatever_else 0))
          ∙ waits_more c.args.stages c.args.arcs.now k c.loop-arc.waits c.loop-arc-test.true c.requires inv.long inv.counts j within;
    }
