use Rattle.cert_files.proofs.WrittenFacts.{search_accepted}
use Rattle.cert_files.proofs.FullFacts.{search_full}
use Rattle.planner_top.proofs.NodeFacts.{search_few}
use Rattle.planner_top.proofs.search.cert_for.Goals as goal

pub returns-clause-accepted : goal.returns-clause-accepted
returns-clause-accepted g c =
    search_accepted c.args.network.now c.args.forest.now c.args.budget c.search.result c.stages.ensures.valid c.search.ensures.own c.search.ensures.short

pub returns-clause-full : goal.returns-clause-full
returns-clause-full g c = search_full c.args.network.now c.args.forest.now c.args.budget c.search.result c.search.ensures.own

pub returns-clause-ranges : goal.returns-clause-ranges
returns-clause-ranges g c = search_few c.args.network.now c.args.forest.now c.args.budget c.search.result c.search.ensures.own
