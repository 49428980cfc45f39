-- A task that is done, or a refusal, is the answer.
use Rattle.std.proofs.Common.{◌≡◌, ◌≤◌, ℕ, ◌+◌, ◌-◌, Bool, true, false, List, [], ◌∷◌, Option, Result, Ok, Err, refl, sym, subst, ap, ◌∙◌, ◌⊎◌, inl, inr, arith}
use Rattle.std.specs.Result.{IsOk, IsErr}
use Rattle.std.proofs.lemmas.Bool.{false≢true}
use Rattle.gsm_outside.specs.Held.{Held}
use Rattle.service_model.specs.declared.cert.Outcome.{Outcome}
use Rattle.service_model.specs.declared.cert.Outcome.TheVariants as outcome
use Rattle.tree_order.specs.declared.forest.Forest.{Forest}
use Rattle.network_check.specs.declared.checked.Checked.{Checked}
use Rattle.planner_top.specs.declared.filled.TheConstants.{MOST_FILLED}
use Rattle.command_words.specs.declared.command.Command.{Command}
use Rattle.command_words.specs.declared.command.Command.TheVariants as command
use Rattle.command_words.specs.declared.word_fault.WordFault.{WordFault}
use Rattle.planner_top.specs.declared.task.Task.{Task}
use Rattle.planner_top.specs.declared.task.Task.TheVariants as task
use Rattle.planner_top.specs.declared.stop.Stop.{Stop}
use Rattle.planner_top.specs.declared.stop.Stop.TheVariants as stop
use Rattle.planner_top.specs.declared.answer.Ending.{Ending}
use Rattle.planner_top.specs.declared.answer.Ending.TheVariants as ending
use Rattle.planner_top.specs.declared.answer.Answer.{Answer}
use Rattle.planner_top.specs.declared.answer.Unanswered.{Unanswered}
use Rattle.planner_top.specs.declared.answer.Unanswered.TheVariants as unanswered
use Rattle.planner_top.specs.declared.stop.Unsolved.{Unsolved}
use Rattle.planner_top.specs.declared.stop.Unsolved.TheVariants as unsolved
use Rattle.cert_files.specs.Certificates.{bytes_in}
use Rattle.command_words.specs.Asked.{Asked, asked_of}
use Rattle.planner_top.specs.Stops.{stop_row}
use Rattle.planner_top.specs.Ready.{IsReady, MayBeTold, search_command, check_command, command_of}
use Rattle.planner_top.specs.Problems.{TellsWords, ProblemCase, ReplyCase, AnswerCase, UnsolvedCase}
use Rattle.edit_reuse.specs.Sessions.{State}
use Rattle.planner_top.specs.Sessions.{AsksSession}
use Rattle.planner_top.specs.declared.answer.Reply.{Reply}
use Rattle.planner_top.specs.declared.answer.Reply.TheVariants as reply
use Rattle.planner_top.specs.Answers.{IsProblem, IsRefusal, MayEnd, ending_of, IsAnswer}
use Rattle.planner_top.specs.Done.{IsSolution, IsAudit, IsCheck, IsDone, ending_by}
use Rattle.service_model.specs.declared.plan.Plan.{Plan}
use Rattle.service_model.specs.Plans.{Feasible}
use Rattle.service_model.specs.Verdicts.{TrueAs}
use Rattle.planner_top.specs.declared.task.Report.{Report}
use Rattle.planner_top.specs.declared.task.Report.TheVariants as report
use Rattle.planner_top.specs.declared.task.Detail.{Detail}
use Rattle.planner_top.specs.declared.task.Detail.TheVariants as detail

-- how a network's solution may end
abbrev is_solved : Ending → Bool
is_solved ending.Done = true
is_solved ending.Infeasible = true
is_solved ending.Spent = true
is_solved _ = false

all_solved : (o : Outcome) → is_solved (ending_by o) ≡ true
all_solved outcome.Optimal = refl
all_solved outcome.Infeasible = refl
all_solved outcome.Spent = refl

-- no solution ends otherwise
not_solved : (e : Ending) (rows : List (List (List ℕ))) (filled : ℕ) (cert : Option (List ℕ)) (c : Checked) (f : Forest) (budget : ℕ) (how : Report) → IsSolution e rows filled cert c f budget how → is_solved e ≡ false → ⊥
not_solved e rows filled cert c f budget how is none =
    (let one : is_solved e ≡ true = ap is_solved is.ending_is ∙ all_solved is.search.verdict.outcome in false≢true (sym none ∙ one))

-- a network with a feasible plan is not found to have none
has_plan : (e : Ending) (rows : List (List (List ℕ))) (filled : ℕ) (cert : Option (List ℕ)) (c : Checked) (f : Forest) (budget : ℕ) (how : Report) → IsSolution e rows filled cert c f budget how → e ≡ ending.Infeasible
    → (p : Plan) → Feasible c.network p → ⊥
has_plan e rows filled cert c f budget how is none p feasible = from is.search.verdict.outcome is.true_verdict (sym is.ending_is ∙ none)
  where
    from : (o : Outcome) → TrueAs o c.network is.search.verdict.bound is.search.verdict.plan → ending_by o ≡ ending.Infeasible → ⊥
    from outcome.Optimal holds same = cc
    from outcome.Infeasible holds same = holds.2 p feasible
    from outcome.Spent holds same = cc

not_words : (t : Task) (rows : List (List (List ℕ))) (filled : ℕ) (cert : Option (List ℕ)) → IsDone ending.Words rows filled cert t → ⊥
not_words (task.Solve c f budget how) rows filled cert is = not_solved ending.Words rows filled cert c f budget how is refl
not_words (task.Audit c plan) rows filled cert is = is.0
not_words (task.Check c bytes d) rows filled cert is = is.0
not_words (task.Clusters c) rows filled cert is = (let done = is.0.ending_is in cc)
not_words (task.Session s script) rows filled cert is = is

not_session : (how : Report) → search_command how ≡ command.Session → ⊥
not_session report.Stages same = cc
not_session (report.Trial seed) same = cc

searched : (how : Report) → (search_command how ≡ command.Solve) ⊎ (search_command how ≡ command.Trial)
searched report.Stages = inl refl
searched (report.Trial seed) = inr refl

-- the answer of a search may end so
solution_may_end : (how : Report) (c : Checked) (f : Forest) (b : ℕ) (e : Ending) (rows : List (List (List ℕ))) (filled : ℕ) (cert : Option (List ℕ)) → MayBeTold how c.network → IsSolution e rows filled cert c f b how → MayEnd (search_command how) e
solution_may_end how c f b ending.Done rows filled cert told is = not_session how
solution_may_end report.Stages c f b ending.Infeasible rows filled cert told is = refl
solution_may_end (report.Trial seed) c f b ending.Infeasible rows filled cert told is = absurd (has_plan ending.Infeasible rows filled cert c f b (report.Trial seed) is refl told.0 told.1)
solution_may_end how c f b ending.Spent rows filled cert told is = searched how
solution_may_end how c f b ending.NotAccepted rows filled cert told is = absurd (not_solved ending.NotAccepted rows filled cert c f b how is refl)
solution_may_end how c f b ending.NotFeasible rows filled cert told is = absurd (not_solved ending.NotFeasible rows filled cert c f b how is refl)
solution_may_end how c f b ending.Words rows filled cert told is = tt
solution_may_end how c f b ending.Refused rows filled cert told is = tt
solution_may_end how c f b ending.TooLong rows filled cert told is = tt

audit_may_end : (c : Checked) (p : Plan) (e : Ending) (rows : List (List (List ℕ))) → IsAudit e rows c p → MayEnd command.Audit e
audit_may_end c p ending.Done rows is = λ same. cc
audit_may_end c p ending.Infeasible rows is = absurd is
audit_may_end c p ending.Spent rows is = absurd is
audit_may_end c p ending.NotAccepted rows is = absurd is
audit_may_end c p ending.NotFeasible rows is = refl
audit_may_end c p ending.Words rows is = tt
audit_may_end c p ending.Refused rows is = tt
audit_may_end c p ending.TooLong rows is = tt

not_carried : (d : Detail) → check_command d ≡ command.Session → ⊥
not_carried detail.Verdict same = cc
not_carried detail.Explanation same = cc

checked : (d : Detail) → (check_command d ≡ command.Check) ⊎ (check_command d ≡ command.Explain)
checked detail.Verdict = inl refl
checked detail.Explanation = inr refl

check_may_end : (c : Checked) (bytes : List ℕ) (d : Detail) (e : Ending) (rows : List (List (List ℕ))) → IsCheck e rows c bytes d → MayEnd (check_command d) e
check_may_end c bytes d ending.Done rows is = not_carried d
check_may_end c bytes d ending.Infeasible rows is = absurd is
check_may_end c bytes d ending.Spent rows is = absurd is
check_may_end c bytes d ending.NotAccepted rows is = checked d
check_may_end c bytes d ending.NotFeasible rows is = absurd is
check_may_end c bytes d ending.Words rows is = tt
check_may_end c bytes d ending.Refused rows is = tt
check_may_end c bytes d ending.TooLong rows is = tt

clusters_may_end : (e : Ending) → e ≡ ending.Done → MayEnd command.Clusters e
clusters_may_end e same = subst (λ (x : Ending). MayEnd command.Clusters x) (sym same) (λ also. cc)

-- a task that is done ends as its command may
done_may_end : (t : Task) (e : Ending) (rows : List (List (List ℕ))) (filled : ℕ) (cert : Option (List ℕ)) → IsReady t → IsDone e rows filled cert t → MayEnd (command_of t) e
done_may_end (task.Solve c f b how) e rows filled cert ready is = solution_may_end how c f b e rows filled cert ready.3 is
done_may_end (task.Audit c plan) e rows filled cert ready is = audit_may_end c plan e rows is.0
done_may_end (task.Check c bytes d) e rows filled cert ready is = check_may_end c bytes d e rows is.0
done_may_end (task.Clusters c) e rows filled cert ready is = clusters_may_end e is.0.ending_is
done_may_end (task.Session s script) e rows filled cert ready is = absurd is

one_asked : (words : List (List ℕ)) (q r : Asked) → asked_of words ≡ Ok q → asked_of words ≡ Ok r → q ≡ r
one_asked words q r is also = cc

not_refused : (words : List (List ℕ)) (q : Asked) → asked_of words ≡ Ok q → IsErr (asked_of words) → ⊥
not_refused words q is err = (let none = rw is at err in cc)

no_rule : (words : List (List ℕ)) (q : Asked) (fault : WordFault) → asked_of words ≡ Ok q → asked_of words ≡ Err fault → ⊥
no_rule words q fault is also = cc

pub done_answer : (words : List (List ℕ)) (held : Option Held) (e : Ending) (rows : List (List (List ℕ))) (filled : ℕ) (cert : Option (List ℕ)) (t : Task) → IsReady t → ((q : Asked) × (asked_of words ≡ Ok q) × (command_of t ≡ q.command))
    → IsProblem words held (Ok t) → filled ≤ MOST_FILLED → IsDone e rows filled cert t → IsAnswer words held e rows filled cert
done_answer words held e rows filled cert t ready asked is few done = record {
  words = (λ same. absurd (not_words t rows filled cert (subst (λ (x : Ending). IsDone x rows filled cert t) same done)), λ err. absurd (not_refused words asked.0 asked.1 err));
  rule = λ fault also. absurd (no_rule words asked.0 fault asked.1 also);
  own = λ q also. subst (λ (x : Command). MayEnd x e) (asked.2 ∙ ap (λ (x : Asked). x.command) (one_asked words asked.0 q asked.1 also)) (done_may_end t e rows filled cert ready done);
  few = few;
  told = (Ok t, is, done);
}

refused_may_end : (c : Command) (s : Stop) → MayEnd c (ending_of s)
refused_may_end c (stop.Words fault) = tt
refused_may_end c (stop.TooLong word) = tt
refused_may_end c (stop.Refused fault) = tt

words_rule : (words : List (List ℕ)) (rows : List (List (List ℕ))) (s : Stop) (fault : WordFault) → TellsWords words s → rows ≡ stop_row s ∷ [] → asked_of words ≡ Err fault → rows ≡ stop_row (stop.Words fault) ∷ []
words_rule words rows (stop.Words f) fault tells line also = (let same : f ≡ fault = cc in line ∙ ap (λ (x : WordFault). stop_row (stop.Words x) ∷ []) same)
words_rule words rows (stop.TooLong word) fault tells line also = (let none = rw also at tells in cc)
words_rule words rows (stop.Refused f) fault tells line also = (let none = rw also at tells in cc)

words_exactly : (words : List (List ℕ)) (s : Stop) → TellsWords words s → ((ending_of s ≡ ending.Words) → IsErr (asked_of words)) × (IsErr (asked_of words) → ending_of s ≡ ending.Words)
words_exactly words (stop.Words fault) tells = (λ same. rw tells refl, λ err. refl)
words_exactly words (stop.TooLong word) tells = (λ same. cc, λ err. absurd (ok_not_err (asked_of words) tells err))
  where
    ok_not_err : (r : Result Asked WordFault) → IsOk r → IsErr r → ⊥
    ok_not_err (Ok q) ok err = cc
    ok_not_err (Err f) ok err = cc
words_exactly words (stop.Refused f) tells = (λ same. cc, λ err. absurd (ok_not_err (asked_of words) tells err))
  where
    ok_not_err : (r : Result Asked WordFault) → IsOk r → IsErr r → ⊥
    ok_not_err (Ok q) ok err = cc
    ok_not_err (Err g) ok err = cc

pub refused_answer : (words : List (List ℕ)) (held : Option Held) (e : Ending) (rows : List (List (List ℕ))) (filled : ℕ) (cert : Option (List ℕ)) (s : Stop) → TellsWords words s
    → IsProblem words held (Err s) → IsRefusal e rows filled cert s → IsAnswer words held e rows filled cert
refused_answer words held e rows filled cert s tells is line = record {
  words = (λ same. (words_exactly words s tells).0 (sym line.0 ∙ same), λ err. line.0 ∙ (words_exactly words s tells).1 err);
  rule = λ fault also. words_rule words rows s fault tells line.1 also;
  own = λ q also. subst (λ (x : Ending). MayEnd q.command x) (sym line.0) (refused_may_end q.command s);
  few = (let none = line.2 in omega (arith, none));
  told = (Err s, is, line);
}

-- a reply that is an answer
abbrev pub reply_with : Result Answer Unanswered → Result Reply Unanswered
reply_with (Ok a) = Ok (reply.Answer a)
reply_with (Err e) = Err e

-- the answer where there is nothing to do
pub unsolved_case : (words : List (List ℕ)) (held : Option Held) (before now ticks : ℕ) (u : Unsolved) (r : Result Answer Unanswered) → ProblemCase words held before now (Err u) → UnsolvedCase u r → AnswerCase words held before now ticks ticks (reply_with r)
unsolved_case words held before now ticks (unsolved.Stop s) (Ok a) case is =
    let counted : ticks ≡ ticks + 0 = omega arith in
    (case.0, (0, counted, (is.0, is.1, refused_answer words held a.ending is.0 0 (bytes_in a.cert) s case.1 case.2 is.2)))
unsolved_case words held before now ticks (unsolved.Stop s) (Err unanswered.NoMemory) case is = (let same = case.0 in (omega (arith, same), omega arith, omega arith))
unsolved_case words held before now ticks (unsolved.Stop s) (Err (unanswered.Fault word)) case is = absurd is
unsolved_case words held before now ticks (unsolved.Fault word) r case is =
    subst (λ (x : Result Answer Unanswered). AnswerCase words held before now ticks ticks (reply_with x)) (sym is) (case.0, case.1, case.2, refl)
unsolved_case words held before now ticks unsolved.NoMemory r case is =
    subst (λ (x : Result Answer Unanswered). AnswerCase words held before now ticks ticks (reply_with x)) (sym is) (case, omega arith, omega arith)

session_asked : (words : List (List ℕ)) (s : State) (script : List (List (List ℕ))) → ((q : Asked) × (asked_of words ≡ Ok q) × (command_of (task.Session s script) ≡ q.command)) → AsksSession words
session_asked words s script (q, asked, own) = (q, asked, sym own)

-- a task that is done is the answer, and a session is the one that is asked for
pub replied_case : (words : List (List ℕ)) (held : Option Held) (before now ticks ticked : ℕ) (t : Task) (r : Reply) → ProblemCase words held before now (Ok t) → ticks ≤ ticked → ticked ≤ ticks + MOST_FILLED → ReplyCase t ticks ticked r
    → AnswerCase words held before now ticks ticked (Ok r)
replied_case words held before now ticks ticked t (reply.Answer a) case later few done =
    let counted : ticked ≡ ticks + (ticked - ticks) = omega (arith, later) in
    let small : ticked - ticks ≤ MOST_FILLED = omega (arith, few) in
    (case.0, (ticked - ticks, counted, (done.0, done.1, done_answer words held a.ending done.0 (ticked - ticks) (bytes_in a.cert) t case.1 case.2 case.3 small done.2)))
replied_case words held before now ticks ticked t (reply.Session s script) case later few done =
    let here = subst (λ (x : Task). ProblemCase words held before now (Ok x)) done.0 case in
    (case.0, done.1, here.1, (session_asked words s script here.2, here.3))
