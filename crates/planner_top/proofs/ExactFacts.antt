-- Each ending comes exactly where its cause is.
use Rattle.std.proofs.Common.{◌≡◌, ◌<◌, ◌≤◌, ◌↔◌, ℕ, ◌==◌, true, false, List, Option, Some, None, Result, Ok, Err, refl, sym, ap, ◌∙◌, subst, inl, inr, arith}
use Rattle.std.specs.Result.{MatchResult}
use Rattle.std.proofs.lemmas.Bool.{false≢true}
use Rattle.std.proofs.lemmas.Bool.Decides.{nat_tests}
use Rattle.stage_file.specs.declared.fault.FileFault.{FileFault}
use Rattle.gsm_outside.specs.Held.{Held}
use Rattle.service_model.specs.declared.plan.Plan.{Plan}
use Rattle.service_model.specs.declared.cert.Outcome.{Outcome}
use Rattle.service_model.specs.declared.cert.Outcome.TheVariants as outcome
use Rattle.service_model.specs.Net.{Net}
use Rattle.service_model.specs.Plans.{Feasible, cost_of}
use Rattle.service_model.specs.Verdicts.{TrueAs}
use Rattle.range_branch.specs.Solutions.{SolvesAs}
use Rattle.service_model.specs.declared.cert.Verdict.{Verdict}
use Rattle.tree_order.specs.declared.forest.Forest.{Forest}
use Rattle.cert_check.specs.Bytes.{IsAcceptedBytes}
use Rattle.network_check.specs.declared.checked.Checked.{Checked}
use Rattle.command_words.specs.declared.word_fault.WordFault.{WordFault}
use Rattle.planner_top.specs.declared.task.Task.{Task}
use Rattle.planner_top.specs.declared.task.Task.TheVariants as task
use Rattle.planner_top.specs.declared.task.Report.{Report}
use Rattle.planner_top.specs.declared.task.Detail.{Detail}
use Rattle.planner_top.specs.declared.task.Detail.TheVariants as detail
use Rattle.command_words.specs.declared.file_word.FileWord.{FileWord}
use Rattle.planner_top.specs.declared.stop.Stop.{Stop}
use Rattle.planner_top.specs.declared.stop.Stop.TheVariants as stop
use Rattle.planner_top.specs.declared.answer.Ending.{Ending}
use Rattle.planner_top.specs.declared.answer.Ending.TheVariants as ending
use Rattle.edit_reuse.specs.Sessions.{State}
use Rattle.planner_top.specs.Answers.{IsProblem, IsRefusal, ending_of, IsAnswer}
use Rattle.planner_top.specs.Done.{IsSolution, IsAudit, IsAcceptedSo, IsCheck, IsDone, ending_by}
use Rattle.planner_top.specs.Causes.{CanBeDone, IsRefusedTask, IsBrokenTask, IsEmptyTask, IsSpent, IsSpentTask, EndsOrSpent}
use Rattle.planner_top.specs.Headline.{Exactly}
use Rattle.cert_check.proofs.RefusalFacts.{not_both_law}
use Rattle.planner_top.proofs.TaskFacts.{one_problem}

-- each ending has a number of its own; those of refusals come last
abbrev number : Ending → ℕ
number ending.Done = 0
number ending.Infeasible = 1
number ending.Spent = 2
number ending.NotAccepted = 3
number ending.NotFeasible = 4
number ending.Words = 5
number ending.Refused = 6
number ending.TooLong = 7

is_itself : (n : ℕ) → (n == n) ≡ true
is_itself n = grind (arith, nat_tests)

apart : {a b : Ending} → a ≡ b → (number a == number b) ≡ false → ⊥
apart {b = b} same other = false≢true (sym other ∙ ap (λ (x : Ending). number x == number b) same ∙ is_itself (number b))

-- an ending of a task is no ending of a refusal
own_apart : {a b : Ending} → a ≡ b → number a < 5 → 5 ≤ number b → ⊥
own_apart {a} {b} same low high = (let one : number a ≡ number b = ap number same in omega (arith, one, low, high))

-- which ending of a task comes exactly where
record EndsExactly (t : Task) (e : Ending) : Type 0 where
  own : number e < 5
  not_accepted : (e ≡ ending.NotAccepted) ↔ IsRefusedTask t
  not_feasible : (e ≡ ending.NotFeasible) ↔ IsBrokenTask t
  infeasible : e ≡ ending.Infeasible → IsEmptyTask t
  where_infeasible : IsEmptyTask t → EndsOrSpent e ending.Infeasible t
  done : e ≡ ending.Done → CanBeDone t
  where_done : CanBeDone t → EndsOrSpent e ending.Done t
  spent : e ≡ ending.Spent → IsSpentTask t

-- a search that ends so ends exactly where its cause is
ended_exactly : (c : Checked) (f : Forest) (budget bound : ℕ) (how : Report) (plan : Option Plan) (o : Outcome) → TrueAs o c.network bound plan → (o ≡ outcome.Spent → IsSpent c.network f budget)
    → EndsExactly (task.Solve c f budget how) (ending_by o)
ended_exactly c f budget bound how None outcome.Optimal is spent = absurd is
ended_exactly c f budget bound how (Some p) outcome.Optimal is spent = record {
  own = omega arith;
  not_accepted = (λ same. absurd (apart same refl), λ refused. absurd refused);
  not_feasible = (λ same. absurd (apart same refl), λ broken. absurd broken);
  infeasible = λ same. absurd (apart same refl);
  where_infeasible = λ empty. absurd (empty p is.0.feasible);
  done = λ same. (p, is.0);
  where_done = λ can. inl refl;
  spent = λ same. absurd (apart same refl);
}
ended_exactly c f budget bound how plan outcome.Infeasible is spent = record {
  own = omega arith;
  not_accepted = (λ same. absurd (apart same refl), λ refused. absurd refused);
  not_feasible = (λ same. absurd (apart same refl), λ broken. absurd broken);
  infeasible = λ same. is.2;
  where_infeasible = λ empty. inl refl;
  done = λ same. absurd (apart same refl);
  where_done = λ can. absurd (is.2 can.0 can.1.feasible);
  spent = λ same. absurd (apart same refl);
}
ended_exactly c f budget bound how plan outcome.Spent is spent = record {
  own = omega arith;
  not_accepted = (λ same. absurd (apart same refl), λ refused. absurd refused);
  not_feasible = (λ same. absurd (apart same refl), λ broken. absurd broken);
  infeasible = λ same. absurd (apart same refl);
  where_infeasible = λ empty. inr (refl, (spent refl).drops);
  done = λ same. absurd (apart same refl);
  where_done = λ can. inr (refl, (spent refl).drops);
  spent = λ same. spent refl;
}

-- a verdict that solves the network is not spent
not_spent : (o : Outcome) (n : Net) (bound : ℕ) (plan : Option Plan) → o ≡ outcome.Spent → SolvesAs o n bound plan → ⊥
not_spent outcome.Optimal n bound plan same is = cc
not_spent outcome.Infeasible n bound plan same is = cc
not_spent outcome.Spent n bound plan same is = is

spent_below : (o : Outcome) (n : Net) (bound : ℕ) (plan : Option Plan) → o ≡ outcome.Spent → TrueAs o n bound plan → (p : Plan) → Feasible n p → bound ≤ cost_of n p
spent_below outcome.Optimal n bound plan same is p feasible = cc
spent_below outcome.Infeasible n bound plan same is p feasible = cc
spent_below outcome.Spent n bound plan same is p feasible = is.0 p feasible

solved_exactly : (c : Checked) (f : Forest) (budget : ℕ) (how : Report) (e : Ending) (rows : List (List (List ℕ))) (filled : ℕ) (cert : Option (List ℕ)) → IsSolution e rows filled cert c f budget how
    → EndsExactly (task.Solve c f budget how) e
solved_exactly c f budget how e rows filled cert is =
    let v = is.search.verdict in
    subst (λ (x : Ending). EndsExactly (task.Solve c f budget how) x) (sym is.ending_is)
    (ended_exactly c f budget v.bound how v.plan v.outcome is.true_verdict (λ same. record {
      drops = λ tree. not_spent v.outcome c.network v.bound v.plan same (is.solved tree);
      search = is.search;
      own = is.own;
      spent = same;
      full = is.full same;
      short = is.short same;
      below = spent_below v.outcome c.network v.bound v.plan same is.true_verdict;
    }))

audited_exactly : (c : Checked) (p : Plan) (e : Ending) (rows : List (List (List ℕ))) → IsAudit e rows c p → EndsExactly (task.Audit c p) e
audited_exactly c p ending.Done rows is = record {
  own = omega arith;
  not_accepted = (λ same. absurd (apart same refl), λ refused. absurd refused);
  not_feasible = (λ same. absurd (apart same refl), λ broken. absurd (broken is.0));
  infeasible = λ same. absurd (apart same refl);
  where_infeasible = λ empty. absurd empty;
  done = λ same. is.0;
  where_done = λ can. inl refl;
  spent = λ same. absurd (apart same refl);
}
audited_exactly c p ending.NotFeasible rows is = record {
  own = omega arith;
  not_accepted = (λ same. absurd (apart same refl), λ refused. absurd refused);
  not_feasible = (λ same. is.0, λ broken. refl);
  infeasible = λ same. absurd (apart same refl);
  where_infeasible = λ empty. absurd empty;
  done = λ same. absurd (apart same refl);
  where_done = λ can. absurd (is.0 can);
  spent = λ same. absurd (apart same refl);
}
audited_exactly c p ending.Words rows is = absurd is
audited_exactly c p ending.Refused rows is = absurd is
audited_exactly c p ending.TooLong rows is = absurd is
audited_exactly c p ending.Infeasible rows is = absurd is
audited_exactly c p ending.Spent rows is = absurd is
audited_exactly c p ending.NotAccepted rows is = absurd is

-- what is told of an accepted certificate has its verdict
has_verdict : (d : Detail) (rows : List (List (List ℕ))) (c : Checked) (bytes : List ℕ) → IsAcceptedSo d rows c bytes → (v : Verdict) × IsAcceptedBytes c.network bytes v
has_verdict detail.Verdict rows c bytes is = (is.0, is.1)
has_verdict detail.Explanation rows c bytes is = (is.0.verdict, is.1.accepted)

checked_exactly : (c : Checked) (bytes : List ℕ) (d : Detail) (e : Ending) (rows : List (List (List ℕ))) → IsCheck e rows c bytes d → EndsExactly (task.Check c bytes d) e
checked_exactly c bytes d ending.Done rows is =
    let accepted = has_verdict d rows c bytes is in
    record {
      own = omega arith;
      not_accepted = (λ same. absurd (apart same refl), λ refused. absurd (not_both_law c.network bytes accepted.0 refused.0 refused.1 accepted.1 refused.2));
      not_feasible = (λ same. absurd (apart same refl), λ broken. absurd broken);
      infeasible = λ same. absurd (apart same refl);
      where_infeasible = λ empty. absurd empty;
      done = λ same. accepted;
      where_done = λ can. inl refl;
      spent = λ same. absurd (apart same refl);
    }
checked_exactly c bytes d ending.NotAccepted rows is = record {
  own = omega arith;
  not_accepted = (λ same. (is.0, is.1, is.2), λ refused. refl);
  not_feasible = (λ same. absurd (apart same refl), λ broken. absurd broken);
  infeasible = λ same. absurd (apart same refl);
  where_infeasible = λ empty. absurd empty;
  done = λ same. absurd (apart same refl);
  where_done = λ can. absurd (not_both_law c.network bytes can.0 is.0 is.1 can.1 is.2);
  spent = λ same. absurd (apart same refl);
}
checked_exactly c bytes d ending.Words rows is = absurd is
checked_exactly c bytes d ending.Refused rows is = absurd is
checked_exactly c bytes d ending.TooLong rows is = absurd is
checked_exactly c bytes d ending.Infeasible rows is = absurd is
checked_exactly c bytes d ending.Spent rows is = absurd is
checked_exactly c bytes d ending.NotFeasible rows is = absurd is

clustered_exactly : (c : Checked) → EndsExactly (task.Clusters c) ending.Done
clustered_exactly c = record {
  own = omega arith;
  not_accepted = (λ same. absurd (apart same refl), λ refused. absurd refused);
  not_feasible = (λ same. absurd (apart same refl), λ broken. absurd broken);
  infeasible = λ same. absurd (apart same refl);
  where_infeasible = λ empty. absurd empty;
  done = λ same. tt;
  where_done = λ can. inl refl;
  spent = λ same. absurd (apart same refl);
}

-- a session that was carried out is done
session_exactly : (s : State) (script : List (List (List ℕ))) → EndsExactly (task.Session s script) ending.Done
session_exactly s script = record {
  own = omega arith;
  not_accepted = (λ same. absurd (apart same refl), λ refused. absurd refused);
  not_feasible = (λ same. absurd (apart same refl), λ broken. absurd broken);
  infeasible = λ same. absurd (apart same refl);
  where_infeasible = λ empty. absurd empty;
  done = λ same. tt;
  where_done = λ can. inl refl;
  spent = λ same. absurd (apart same refl);
}

done_exactly : (t : Task) (e : Ending) (rows : List (List (List ℕ))) (filled : ℕ) (cert : Option (List ℕ)) → IsDone e rows filled cert t → EndsExactly t e
done_exactly (task.Solve c f b how) e rows filled cert is = solved_exactly c f b how e rows filled cert is
done_exactly (task.Audit c p) e rows filled cert is = audited_exactly c p e rows is.0
done_exactly (task.Check c bytes d) e rows filled cert is = checked_exactly c bytes d e rows is.0
done_exactly (task.Clusters c) e rows filled cert is = subst (λ (x : Ending). EndsExactly (task.Clusters c) x) (sym is.0.ending_is) (clustered_exactly c)
done_exactly (task.Session s script) e rows filled cert is = absurd is

abbrev found : Task → Result Task Stop
found t = Ok t

abbrev stopped : Stop → Result Task Stop
stopped s = Err s

one_found : (t u : Task) → found t ≡ found u → t ≡ u
one_found t u same = cc

not_stopped : (s : Stop) (t : Task) → stopped s ≡ found t → ⊥
not_stopped s t same = cc

one_stop : (s u : Stop) → stopped s ≡ stopped u → s ≡ u
one_stop s u same = cc

-- an ending of a task comes exactly where its cause is, since words and files ask for one thing
task_exactly : (words : List (List ℕ)) (m : Held) (t : Task) (e : Ending) → IsProblem words (Some m) (Ok t) → EndsExactly t e → Exactly words m e
task_exactly words m t e is by =
    let one : (u : Task) → IsProblem words (Some m) (Ok u) → t ≡ u = λ u also. one_found t u (one_problem words m (Ok t) (Ok u) is also) in
    let none : (s : Stop) → IsProblem words (Some m) (Err s) → ⊥ = λ s also. not_stopped s t (one_problem words m (Err s) (Ok t) also is) in
    record {
      words = (λ same. absurd (own_apart same by.own (omega arith)), λ cause. absurd (none (stop.Words cause.0) cause.1));
      too_long = (λ same. absurd (own_apart same by.own (omega arith)), λ cause. absurd (none (stop.TooLong cause.0) cause.1));
      refused = (λ same. absurd (own_apart same by.own (omega arith)), λ cause. absurd (none (stop.Refused cause.0) cause.1));
      not_accepted = (λ same. (t, is, by.not_accepted.0 same), λ cause. by.not_accepted.1 (subst (λ (u : Task). IsRefusedTask u) (sym (one cause.0 cause.1)) cause.2));
      not_feasible = (λ same. (t, is, by.not_feasible.0 same), λ cause. by.not_feasible.1 (subst (λ (u : Task). IsBrokenTask u) (sym (one cause.0 cause.1)) cause.2));
      infeasible = λ same. (t, is, by.infeasible same);
      where_infeasible = λ u also empty. (let same = one u also in subst (λ (x : Task). EndsOrSpent e ending.Infeasible x) same (by.where_infeasible (subst (λ (x : Task). IsEmptyTask x) (sym same) empty)));
      done = λ same. (t, is, by.done same);
      where_done = λ u also can. (let same = one u also in subst (λ (x : Task). EndsOrSpent e ending.Done x) same (by.where_done (subst (λ (x : Task). CanBeDone x) (sym same) can)));
      spent = λ same. (t, is, by.spent same);
    }

-- so does that of a refusal, which is one of the three
stop_exactly : (words : List (List ℕ)) (m : Held) (s : Stop) → IsProblem words (Some m) (Err s) → Exactly words m (ending_of s)
stop_exactly words m s is = record {
  words = (from_words s is, λ cause. ap ending_of (one_stop s (stop.Words cause.0) (one_problem words m (Err s) (Err (stop.Words cause.0)) is cause.1)));
  too_long = (from_long s is, λ cause. ap ending_of (one_stop s (stop.TooLong cause.0) (one_problem words m (Err s) (Err (stop.TooLong cause.0)) is cause.1)));
  refused = (from_rule s is, λ cause. ap ending_of (one_stop s (stop.Refused cause.0) (one_problem words m (Err s) (Err (stop.Refused cause.0)) is cause.1)));
  not_accepted = (λ same. absurd (own_apart (sym same) (omega arith) (late s)), λ cause. absurd (none cause.0 cause.1));
  not_feasible = (λ same. absurd (own_apart (sym same) (omega arith) (late s)), λ cause. absurd (none cause.0 cause.1));
  infeasible = λ same. absurd (own_apart (sym same) (omega arith) (late s));
  where_infeasible = λ t also empty. absurd (none t also);
  done = λ same. absurd (own_apart (sym same) (omega arith) (late s));
  where_done = λ t also can. absurd (none t also);
  spent = λ same. absurd (own_apart (sym same) (omega arith) (late s));
}
  where
    none : (t : Task) → IsProblem words (Some m) (Ok t) → ⊥
    none t also = not_stopped s t (one_problem words m (Err s) (Ok t) is also)

    late : (u : Stop) → 5 ≤ number (ending_of u)
    late (stop.Words fault) = omega arith
    late (stop.TooLong word) = omega arith
    late (stop.Refused fault) = omega arith

    from_words : (u : Stop) → IsProblem words (Some m) (Err u) → ending_of u ≡ ending.Words → (fault : WordFault) × IsProblem words (Some m) (Err (stop.Words fault))
    from_words (stop.Words fault) is same = (fault, is)
    from_words (stop.TooLong word) is same = absurd (apart same refl)
    from_words (stop.Refused fault) is same = absurd (apart same refl)

    from_long : (u : Stop) → IsProblem words (Some m) (Err u) → ending_of u ≡ ending.TooLong → (word : FileWord) × IsProblem words (Some m) (Err (stop.TooLong word))
    from_long (stop.Words fault) is same = absurd (apart same refl)
    from_long (stop.TooLong word) is same = (word, is)
    from_long (stop.Refused fault) is same = absurd (apart same refl)

    from_rule : (u : Stop) → IsProblem words (Some m) (Err u) → ending_of u ≡ ending.Refused → (fault : FileFault) × IsProblem words (Some m) (Err (stop.Refused fault))
    from_rule (stop.Words fault) is same = absurd (apart same refl)
    from_rule (stop.TooLong word) is same = absurd (apart same refl)
    from_rule (stop.Refused fault) is same = (fault, is)

answer_exactly : (words : List (List ℕ)) (m : Held) (problem : Result Task Stop) (e : Ending) (rows : List (List (List ℕ))) (filled : ℕ) (cert : Option (List ℕ)) → IsProblem words (Some m) problem → MatchResult problem (IsDone e rows filled cert) (IsRefusal e rows filled cert) → Exactly words m e
answer_exactly words m (Ok t) e rows filled cert is done = task_exactly words m t e is (done_exactly t e rows filled cert done)
answer_exactly words m (Err s) e rows filled cert is line = subst (λ (x : Ending). Exactly words m x) (sym line.0) (stop_exactly words m s is)

-- an answer comes exactly where its cause is, on a shelf that tells what it holds
pub told_exactly : (words : List (List ℕ)) (held : Option Held) (m : Held) (e : Ending) (rows : List (List (List ℕ))) (filled : ℕ) (cert : Option (List ℕ)) → held ≡ Some m → IsAnswer words held e rows filled cert → Exactly words m e
told_exactly words held m e rows filled cert tells is =
    answer_exactly words m is.told.0 e rows filled cert (subst (λ (h : Option Held). IsProblem words h is.told.0) tells is.told.1) is.told.2

-- and a session that was carried out comes exactly where it is asked for
pub carried_exactly : (words : List (List ℕ)) (held : Option Held) (m : Held) (s : State) (script : List (List (List ℕ))) → held ≡ Some m → IsProblem words held (Ok (task.Session s script)) → Exactly words m ending.Done
carried_exactly words held m s script tells is =
    task_exactly words m (task.Session s script) ending.Done (subst (λ (h : Option Held). IsProblem words h (Ok (task.Session s script))) tells is) (session_exactly s script)
