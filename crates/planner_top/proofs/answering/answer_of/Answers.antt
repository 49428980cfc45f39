use Rattle.std.proofs.Common.{Ok}
use Rattle.planner_top.proofs.AnswerFacts.{unsolved_case, replied_case}
use Rattle.planner_top.proofs.answering.answer_of.Goals as goal

pub returns-in_ok-reply_to-in-Ok-clause-case : goal.returns-in_ok-reply_to-in-Ok-clause-case
returns-in_ok-reply_to-in-Ok-clause-case g c =
    replied_case c.args.words.now (g.S.Shelf.held c.args.shelf.now) _ _ c.args.steps.now c.reply_to.new.steps c.in-Ok.task c.in_ok-reply_to-in-Ok.field-0 c.in-Ok.ensures.case
    c.in_ok-reply_to-in-Ok.ensures.later c.in_ok-reply_to-in-Ok.ensures.few c.in_ok-reply_to-in-Ok.ensures.done

pub returns-in_ok-unsolved_answer-in-Err-clause-case : goal.returns-in_ok-unsolved_answer-in-Err-clause-case
returns-in_ok-unsolved_answer-in-Err-clause-case g c =
    unsolved_case c.args.words.now (g.S.Shelf.held c.args.shelf.now) _ _ c.args.steps.now c.in-Err.unsolved (Ok c.in_ok-unsolved_answer-in-Err.field-0) c.in-Err.ensures.case c.in_ok-unsolved_answer-in-Err.ensures
