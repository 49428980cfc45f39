use Rattle.std.proofs.Common.{◌+◌, sym, subst, arith}
use Rattle.std.specs.Prelude.{Some, None, IfSome}
use Rattle.service_model.specs.declared.range.Range.{Range}
use Rattle.service_model.specs.declared.cert.Node.{Node}
use Rattle.service_model.specs.Plans.{HasTimes}
use Rattle.service_model.specs.Ranges.{HasIntervals, HoldsTime}
use Rattle.service_model.specs.CertRanges.{no_range, range_at}
use Rattle.service_model.specs.Held.{no_node, node_at}
use Rattle.range_branch.specs.Steps.{CutBy, AreHalves}
use Rattle.range_branch.proofs.SplittingFacts.{next_leaf, split_at}
use Rattle.range_branch.proofs.StepFacts.{many_ranges}
use Rattle.range_branch.proofs.LeafStepFacts.{not_met, cutting_is, relaxed_times, found_is_feasible, stepped, halves_repairable}
use Rattle.range_branch.proofs.split.split_leaf.Goals as goal

pub get-node-requires : goal.get-node-requires
get-node-requires g c =
    let given = c.requires.given in
    (next_leaf c.args.given.now.network.now c.args.given.now.forest.now c.args.given.now.budget c.args.pool.now c.args.progress c.args.leaf given.valid given.forest
    c.requires.progress c.requires.least c.requires.unended).within

pub cutting_of-requires : goal.cutting_of-requires
cutting_of-requires g c =
    let n = c.args.given.now.network.now in
    let f = c.args.given.now.forest.now in
    let p = c.args.progress in
    let given = c.requires.given in
    let next = next_leaf n f c.args.given.now.budget c.args.pool.now p c.args.leaf given.valid given.forest c.requires.progress c.requires.least c.requires.unended in
    let node = c.requires.progress.nodes c.args.leaf.node next.within in
    subst (λ (x : Node). IfSome x.relaxed (HasTimes n)) (c.get-node.ensures.whatever_else no_node)
    (relaxed_times n f c.args.pool.now (range_at p.ranges c.args.leaf.node) (node_at p.nodes c.args.leaf.node) node.node)

pub unreachable-requires : goal.unreachable-requires
unreachable-requires g c =
    let n = c.args.given.now.network.now in
    let f = c.args.given.now.forest.now in
    let p = c.args.progress in
    let given = c.requires.given in
    let next = next_leaf n f c.args.given.now.budget c.args.pool.now p c.args.leaf given.valid given.forest c.requires.progress c.requires.least c.requires.unended in
    not_met n f c.args.given.now.budget c.args.pool.now p c.args.leaf given.valid given.forest c.requires.progress next
    (subst (λ (x : Node). CutBy n c.args.leaf.node x.relaxed None) (sym (c.get-node.ensures.whatever_else no_node)) c.in_default.ensures)

pub get-range-requires : goal.get-range-requires
get-range-requires g c =
    let n = c.args.given.now.network.now in
    let f = c.args.given.now.forest.now in
    let p = c.args.progress in
    let given = c.requires.given in
    let next = next_leaf n f c.args.given.now.budget c.args.pool.now p c.args.leaf given.valid given.forest c.requires.progress c.requires.least c.requires.unended in
    omega (arith, next.within, many_ranges n f c.args.given.now.budget c.args.pool.now p c.requires.progress)

pub made_halves-requires-clause-intervals : goal.made_halves-requires-clause-intervals
made_halves-requires-clause-intervals g c =
    let n = c.args.given.now.network.now in
    let f = c.args.given.now.forest.now in
    let p = c.args.progress in
    let given = c.requires.given in
    let next = next_leaf n f c.args.given.now.budget c.args.pool.now p c.args.leaf given.valid given.forest c.requires.progress c.requires.least c.requires.unended in
    subst (HasIntervals n) (c.get-range.ensures.whatever_else no_range) (c.requires.progress.nodes c.args.leaf.node next.within).range.intervals

pub made_halves-requires-clause-holds : goal.made_halves-requires-clause-holds
made_halves-requires-clause-holds g c =
    let n = c.args.given.now.network.now in
    let f = c.args.given.now.forest.now in
    let budget = c.args.given.now.budget in
    let p = c.args.progress in
    let leaf = c.args.leaf in
    let given = c.requires.given in
    let cutting = c.in-Some.cutting in
    let next = next_leaf n f budget c.args.pool.now p leaf given.valid given.forest c.requires.progress c.requires.least c.requires.unended in
    let by = cutting_is n budget c.args.pool.now p leaf cutting next
    (subst (λ (x : Node). CutBy n leaf.node x.relaxed (Some cutting)) (sym (c.get-node.ensures.whatever_else no_node)) c.in-Some.ensures) in
    subst (λ (r : Range). HoldsTime r cutting.split.supplier cutting.last) (c.get-range.ensures.whatever_else no_range)
    (split_at n budget c.args.pool.now p leaf next.relaxed.plan cutting given.valid next next.relaxed.there by).holds

pub made_halves-requires-clause-next : goal.made_halves-requires-clause-next
made_halves-requires-clause-next g c =
    let n = c.args.given.now.network.now in
    let f = c.args.given.now.forest.now in
    let budget = c.args.given.now.budget in
    let p = c.args.progress in
    let leaf = c.args.leaf in
    let given = c.requires.given in
    let cutting = c.in-Some.cutting in
    let next = next_leaf n f budget c.args.pool.now p leaf given.valid given.forest c.requires.progress c.requires.least c.requires.unended in
    let by = cutting_is n budget c.args.pool.now p leaf cutting next
    (subst (λ (x : Node). CutBy n leaf.node x.relaxed (Some cutting)) (sym (c.get-node.ensures.whatever_else no_node)) c.in-Some.ensures) in
    subst (λ (r : Range). HoldsTime r cutting.split.supplier (cutting.last + 1)) (c.get-range.ensures.whatever_else no_range)
    (split_at n budget c.args.pool.now p leaf next.relaxed.plan cutting given.valid next next.relaxed.there by).next

pub with_halves-requires-clause-found : goal.with_halves-requires-clause-found
with_halves-requires-clause-found g c =
    found_is_feasible c.args.given.now.network.now c.args.given.now.forest.now c.args.given.now.budget c.args.pool.now c.args.progress c.requires.progress

pub with_halves-requires-clause-left : goal.with_halves-requires-clause-left
with_halves-requires-clause-left g c =
    let n = c.args.given.now.network.now in
    let f = c.args.given.now.forest.now in
    let budget = c.args.given.now.budget in
    let p = c.args.progress in
    let leaf = c.args.leaf in
    let given = c.requires.given in
    let cutting = c.in-Some.cutting in
    let next = next_leaf n f budget c.args.pool.now p leaf given.valid given.forest c.requires.progress c.requires.least c.requires.unended in
    let by = cutting_is n budget c.args.pool.now p leaf cutting next
    (subst (λ (x : Node). CutBy n leaf.node x.relaxed (Some cutting)) (sym (c.get-node.ensures.whatever_else no_node)) c.in-Some.ensures) in
    let at = split_at n budget c.args.pool.now p leaf next.relaxed.plan cutting given.valid next next.relaxed.there by in
    let halves = subst (λ (r : Range). AreHalves n f r cutting c.args.pool.now c.made_halves.new.pool c.args.steps.now c.made_halves.new.steps c.in_ok-halves.halves)
    (sym (c.get-range.ensures.whatever_else no_range)) c.in_ok-halves.ensures.halves in
    (halves_repairable n f (range_at p.ranges leaf.node) cutting c.args.pool.now c.made_halves.new.pool c.args.steps.now c.made_halves.new.steps c.in_ok-halves.halves
    (c.requires.progress.nodes leaf.node next.within).range at.holds halves).0

pub with_halves-requires-clause-right : goal.with_halves-requires-clause-right
with_halves-requires-clause-right g c =
    let n = c.args.given.now.network.now in
    let f = c.args.given.now.forest.now in
    let budget = c.args.given.now.budget in
    let p = c.args.progress in
    let leaf = c.args.leaf in
    let given = c.requires.given in
    let cutting = c.in-Some.cutting in
    let next = next_leaf n f budget c.args.pool.now p leaf given.valid given.forest c.requires.progress c.requires.least c.requires.unended in
    let by = cutting_is n budget c.args.pool.now p leaf cutting next
    (subst (λ (x : Node). CutBy n leaf.node x.relaxed (Some cutting)) (sym (c.get-node.ensures.whatever_else no_node)) c.in-Some.ensures) in
    let at = split_at n budget c.args.pool.now p leaf next.relaxed.plan cutting given.valid next next.relaxed.there by in
    let halves = subst (λ (r : Range). AreHalves n f r cutting c.args.pool.now c.made_halves.new.pool c.args.steps.now c.made_halves.new.steps c.in_ok-halves.halves)
    (sym (c.get-range.ensures.whatever_else no_range)) c.in_ok-halves.ensures.halves in
    (halves_repairable n f (range_at p.ranges leaf.node) cutting c.args.pool.now c.made_halves.new.pool c.args.steps.now c.made_halves.new.steps c.in_ok-halves.halves
    (c.requires.progress.nodes leaf.node next.within).range at.holds halves).1

pub returns-clause-progress : goal.returns-clause-progress
returns-clause-progress g c =
    let n = c.args.given.now.network.now in
    let f = c.args.given.now.forest.now in
    let budget = c.args.given.now.budget in
    let p = c.args.progress in
    let leaf = c.args.leaf in
    let given = c.requires.given in
    let cutting = c.in-Some.cutting in
    let next = next_leaf n f budget c.args.pool.now p leaf given.valid given.forest c.requires.progress c.requires.least c.requires.unended in
    let by = cutting_is n budget c.args.pool.now p leaf cutting next
    (subst (λ (x : Node). CutBy n leaf.node x.relaxed (Some cutting)) (sym (c.get-node.ensures.whatever_else no_node)) c.in-Some.ensures) in
    let at = split_at n budget c.args.pool.now p leaf next.relaxed.plan cutting given.valid next next.relaxed.there by in
    let halves = subst (λ (r : Range). AreHalves n f r cutting c.args.pool.now c.made_halves.new.pool c.args.steps.now c.made_halves.new.steps c.in_ok-halves.halves)
    (sym (c.get-range.ensures.whatever_else no_range)) c.in_ok-halves.ensures.halves in
    stepped n f budget c.args.pool.now c.made_halves.new.pool c.args.steps.now c.made_halves.new.steps p c.in_ok-next.next leaf next.relaxed.plan cutting
    c.in_ok-halves.halves given.valid given.most given.forest c.requires.progress next at c.requires.least next.relaxed.there by halves c.in_ok-next.ensures
