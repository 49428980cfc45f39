use Rattle.std.proofs.Common.{subst, arith}
use Rattle.std.specs.Prelude.{None}
use Rattle.range_splits.specs.Open.{IsEndingOf}
use Rattle.range_branch.proofs.SearchFacts.{some_leaf, few_tables, few_more}
use Rattle.range_branch.proofs.branch.searched.Goals as goal

pub unreachable-requires : goal.unreachable-requires
unreachable-requires g c =
    some_leaf c.args.given.now.network.now c.args.given.now.forest.now c.args.given.now.budget c.splits.pool c.splits.progress c.requires.given.valid
    c.splits.invariant.0 c.in_default.ensures.none

pub returns-in-Some-ending_of-clause-few : goal.returns-in-Some-ending_of-clause-few
returns-in-Some-ending_of-clause-few g c =
    let few = few_tables c.args.given.now.network.now c.args.given.now.forest.now c.args.given.now.budget c.splits.pool c.splits.progress c.splits.invariant.0 in
    let steps = c.splits.invariant.1 in
    omega (arith, few, steps)

pub returns-in_err-progress-in-None-clause-few : goal.returns-in_err-progress-in-None-clause-few
returns-in_err-progress-in-None-clause-few g c =
    let n = c.args.given.now.network.now in
    let p = c.splits.progress in
    let more = few_more n c.args.given.now.forest.now c.args.given.now.budget c.splits.pool p c.in-Some.leaf.bound c.splits.invariant.0
    (subst (λ k. IsEndingOf n p.found c.in-Some.leaf.bound k c.args.given.now.budget None) c.len-nodes.ensures c.in-None.ensures) in
    let steps = c.splits.invariant.1 in
    omega (arith, more, steps, c.split_leaf.ensures.few)
