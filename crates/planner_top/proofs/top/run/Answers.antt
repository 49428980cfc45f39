use Rattle.planner_top.proofs.HeadlineFacts.{headline_from}
use Rattle.planner_top.proofs.top.run.Goals as goal

pub returns-clause-headline : goal.returns-clause-headline
returns-clause-headline g c = headline_from _ c.run_cases.ensures.held c.run_cases.ensures.writes c.run_cases.ensures.case
