use Rattle.std.proofs.Common.{Option, subst}
use Rattle.command_words.specs.declared.asked.TrialNumbers.{TrialNumbers}
use Rattle.command_words.specs.Requests.{request_as, IsTrialFor}
use Rattle.planner_top.proofs.ProblemFacts.{asked_trial, trial_alone}
use Rattle.planner_top.proofs.answering.asked_problem.Goals as goal

pub returns-in-Some-clause-case : goal.returns-in-Some-clause-case
returns-in-Some-clause-case g c =
    let request = c.args.request.now in
    let own = subst (λ (t : Option TrialNumbers). IsTrialFor request.command t) c.in-Some.is c.requires.trial in
    asked_trial (request_as request) _ _ c.in-Some.numbers c.trial_of.result c.in-Some.is (trial_alone request.command own.0) c.trial_of.ensures
