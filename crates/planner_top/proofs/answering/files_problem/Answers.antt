use Rattle.command_words.specs.Requests.{request_as}
use Rattle.planner_top.proofs.ProblemFacts.{asked_case}
use Rattle.planner_top.proofs.answering.files_problem.Goals as goal

pub returns-in-Ok-clause-case : goal.returns-in-Ok-clause-case
returns-in-Ok-clause-case g c =
    let read = c.in-Ok.ensures.case in
    asked_case (request_as c.args.request.now) _ _ _ c.in-Ok.contents _ read.0 (read.1, read.2) c.requires.files c.task_of.ensures
