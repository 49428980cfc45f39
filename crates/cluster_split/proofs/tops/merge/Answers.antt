-- The later of the two tops is lifted, in either branch.
use Rattle.std.proofs.Common.{◌<◌, arith}
use Rattle.cluster_split.proofs.TopFacts.{tops_fall, short_falls}
use Rattle.cluster_split.proofs.MergeFacts.{merging_none, merging_more, merging_less, merging_back, later_steps, tree_back}
use Rattle.cluster_split.proofs.tops.merge.Goals as goal

pub top_of-a-requires-clause-falls : goal.top_of-a-requires-clause-falls
top_of-a-requires-clause-falls c = tops_fall c.args.up.now c.args.tops.now c.requires.falls c.requires.tops

pub top_of-b-requires-clause-falls : goal.top_of-b-requires-clause-falls
top_of-b-requires-clause-falls c = short_falls c.args.tops.now c.top_of-a.new.tops c.top_of-a.ensures.shortcut (tops_fall c.args.up.now c.args.tops.now c.requires.falls c.requires.tops)

pub climb-init : goal.climb-init
climb-init c =
    merging_none c.args.up.now c.args.tops.now c.top_of-a.new.tops c.top_of-b.new.tops c.args.one c.args.other c.top_of-a.result c.top_of-b.result c.requires.falls c.requires.tops
    c.top_of-a.ensures.shortcut c.top_of-a.ensures.reached c.top_of-a.ensures.top c.top_of-b.ensures.shortcut c.top_of-b.ensures.reached c.top_of-b.ensures.top

pub lift-a-requires-clause-below : goal.lift-a-requires-clause-below
lift-a-requires-clause-below c =
    later_steps c.args.up.now c.args.tops.now c.climb.tops c.args.one c.args.other c.climb.a c.climb.b c.requires.falls c.requires.tree c.climb.invariant c.if-b-a.true

pub climb-smaller-then-b-a : goal.climb-smaller-then-b-a
climb-smaller-then-b-a c =
    let steps = later_steps c.args.up.now c.args.tops.now c.climb.tops c.args.one c.args.other c.climb.a c.climb.b c.requires.falls c.requires.tree c.climb.invariant c.if-b-a.true in
    omega (arith, steps, c.lift-a.ensures.lifts.lower)

pub climb-preserved-then-b-a : goal.climb-preserved-then-b-a
climb-preserved-then-b-a c =
    merging_more c.args.up.now c.args.tops.now c.climb.tops c.lift-a.new.tops c.args.one c.args.other c.climb.a c.climb.b c.lift-a.result c.requires.falls c.climb.invariant c.if-b-a.true c.lift-a.ensures.tops c.lift-a.ensures.lifts

pub lift-b-requires-clause-below : goal.lift-b-requires-clause-below
lift-b-requires-clause-below c =
    let less : c.climb.a < c.climb.b = omega (arith, c.climb-test.true, c.if-b-a.false) in
    later_steps c.args.up.now c.args.tops.now c.climb.tops c.args.other c.args.one c.climb.b c.climb.a c.requires.falls (tree_back c.args.up.now c.args.one c.args.other c.requires.tree)
    (merging_back c.args.up.now c.args.tops.now c.climb.tops c.args.one c.args.other c.climb.a c.climb.b c.climb.invariant) less

pub climb-smaller : goal.climb-smaller
climb-smaller c =
    let less : c.climb.a < c.climb.b = omega (arith, c.climb-test.true, c.if-b-a.false) in
    let steps = later_steps c.args.up.now c.args.tops.now c.climb.tops c.args.other c.args.one c.climb.b c.climb.a c.requires.falls (tree_back c.args.up.now c.args.one c.args.other c.requires.tree)
    (merging_back c.args.up.now c.args.tops.now c.climb.tops c.args.one c.args.other c.climb.a c.climb.b c.climb.invariant) less in
    omega (arith, steps, c.lift-b.ensures.lifts.lower)

pub climb-preserved : goal.climb-preserved
climb-preserved c =
    let less : c.climb.a < c.climb.b = omega (arith, c.climb-test.true, c.if-b-a.false) in
    merging_less c.args.up.now c.args.tops.now c.climb.tops c.lift-b.new.tops c.args.one c.args.other c.climb.a c.climb.b c.lift-b.result c.requires.falls c.climb.invariant less c.lift-b.ensures.tops c.lift-b.ensures.lifts
