-- Each root is traced where the roots behind leave the plan alone.
use Rattle.arc_relax.proofs.RootFacts.{root_once, roots_more, roots_all}
use Rattle.arc_relax.proofs.plans.plan_of.Goals as goal

pub trace-requires-clause-once : goal.trace-requires-clause-once
trace-requires-clause-once c = root_once c.args.network.now c.args.made.now c.args.roots.now c.roots.root-index c.requires.whole c.roots-test.true

pub roots-preserved : goal.roots-preserved
roots-preserved c =
    roots_more c.args.network.now c.args.made.now c.args.roots.now c.roots.root-index c.in_ok-plan.plan c.roots.plan c.trace.new.plan
    c.requires.tight c.requires.whole c.roots-test.true c.roots.invariant c.trace.ensures

pub returns : goal.returns
returns c =
    roots_all c.args.network.now c.args.made.now c.args.roots.now c.roots.root-index c.in_ok-plan.plan c.roots.plan
    c.requires.tight c.requires.whole c.requires.below c.roots-test.false c.roots.invariant
