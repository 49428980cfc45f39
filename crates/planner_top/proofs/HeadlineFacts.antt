-- The promise of the top call follows from what each status says.
use Rattle.std.proofs.Common.{◌≡◌, ◌⊎◌, Option, Some, None, refl, sym, ◌∙◌, subst, arith, inl, inr}
use Rattle.command_words.specs.Asked.{cert_name}
use Rattle.planner_top.specs.Runs.{Run, IsLater}
use Rattle.planner_top.specs.Endings.{Answered, status_of}
use Rattle.planner_top.specs.StatusCases.{StatusCase}
use Rattle.planner_top.specs.Faults.{FailedWrite, PrintsFront}
use Rattle.planner_top.specs.Sessions.{KeepsNames, IsCarried, IsCutByWrite}
use Rattle.planner_top.proofs.SessionFacts.{few_for}
use Rattle.planner_top.specs.Headline.{Exactly, IsSure, Headline}
use Rattle.planner_top.specs.declared.answer.Ending.{Ending}
use Rattle.planner_top.specs.declared.answer.Ending.TheVariants as ending
use Rattle.planner_top.specs.declared.status.Status.{Status}
use Rattle.planner_top.specs.declared.status.Status.TheVariants as status
use Rattle.planner_top.proofs.ExactFacts.{told_exactly, carried_exactly}

-- the ending that a status tells, if it tells one
abbrev ending_in : Status → Option Ending
ending_in status.Done = Some ending.Done
ending_in status.Infeasible = Some ending.Infeasible
ending_in status.Spent = Some ending.Spent
ending_in status.Words = Some ending.Words
ending_in status.Refused = Some ending.Refused
ending_in status.TooLong = Some ending.TooLong
ending_in status.NotAccepted = Some ending.NotAccepted
ending_in status.NotFeasible = Some ending.NotFeasible
ending_in _ = None

ending_told : (e : Ending) → ending_in (status_of e) ≡ Some e
ending_told ending.Done = refl
ending_told ending.Infeasible = refl
ending_told ending.Spent = refl
ending_told ending.Words = refl
ending_told ending.Refused = refl
ending_told ending.TooLong = refl
ending_told ending.NotAccepted = refl
ending_told ending.NotFeasible = refl

-- each ending has a status of its own
one_ending : (a b : Ending) → status_of a ≡ status_of b → b ≡ a
one_ending a b same = from same (ending_told a) (ending_told b)
  where
    from : status_of a ≡ status_of b → ending_in (status_of a) ≡ Some a → ending_in (status_of b) ≡ Some b → b ≡ a
    from same is also = cc

-- a status that tells no ending is that of none
other_ending : (s : Status) (e : Ending) → ending_in s ≡ None → status_of e ≡ s → ⊥
other_ending s e none same = from same none (ending_told e)
  where
    from : status_of e ≡ s → ending_in s ≡ None → ending_in (status_of e) ≡ Some e → ⊥
    from same none is = cc

answered_later : (r : Run) (e : Ending) → Answered r e → IsLater r
answered_later r e answered = record {
  reads = omega (arith, answered.0);
  writes = omega (arith, answered.1);
  faults = omega (arith, answered.2);
  ticks = omega (arith, answered.3.3);
  few = few_for r (let few = answered.3.4.few in let ticks = answered.3.3 in omega (arith, few, ticks));
}

-- what is seen of the shelf after a run, whatever the status
record IsKept (r : Run) : Type 0 where
  shelf : KeepsNames r.words r.held r.held_after
  writes : cert_name r.words ≡ None → r.writes_after ≡ r.writes

answered_headline : (r : Run) (e : Ending) → IsKept r → r.status ≡ status_of e → Answered r e → Headline r
answered_headline r e kept same answered = record {
  shelf = kept.shelf;
  writes = kept.writes;
  later = answered_later r e answered;
  complete = λ sure. (e, same);
  answer = λ other also. inl (subst (λ (x : Ending). Answered r x) (one_ending other e (sym also ∙ same)) answered);
  exact = λ other m also told.
      subst (λ (x : Ending). Exactly r.words m x) (one_ending other e (sym also ∙ same)) (told_exactly r.words r.held m e answered.3.0 answered.3.1 answered.3.2 told answered.3.4);
  read_fault = λ also. absurd (other_ending status.ReadFault e refl (sym same ∙ also));
  write_fault = λ also. absurd (other_ending status.WriteFault e refl (sym same ∙ also));
  no_memory = λ also. absurd (other_ending status.NoMemory e refl (sym same ∙ also));
}

carried_headline : (r : Run) → IsKept r → r.status ≡ status.Done → IsLater r → IsCarried r → Headline r
carried_headline r kept same later carried = record {
  shelf = kept.shelf;
  writes = kept.writes;
  later = later;
  complete = λ sure. (ending.Done, same);
  answer = λ other also. inr (sym (one_ending other ending.Done (sym also ∙ same)), carried);
  exact = λ other m also told.
      subst (λ (x : Ending). Exactly r.words m x) (one_ending other ending.Done (sym also ∙ same)) (carried_exactly r.words r.held m carried.1.0 carried.1.1 told carried.1.2.1);
  read_fault = λ also. absurd (other_ending status.ReadFault ending.Done refl (sym same ∙ also));
  write_fault = λ also. absurd (other_ending status.WriteFault ending.Done refl (sym same ∙ also));
  no_memory = λ also. absurd (other_ending status.NoMemory ending.Done refl (sym same ∙ also));
}

-- where no call failed, no write did
unsure_cut : (r : Run) → IsSure r → IsCutByWrite r → ⊥
unsure_cut r sure (inl halted) = sure.puts halted.1.3.left.1
unsure_cut r sure (inr cut) = sure.writes cut.1.1.3.left.1

unsure_write : (r : Run) → IsSure r → (FailedWrite r × PrintsFront r) ⊎ IsCutByWrite r → ⊥
unsure_write r sure (inl (inl rose, front)) = sure.puts rose
unsure_write r sure (inl (inr told, front)) = sure.writes told.0.rose
unsure_write r sure (inr cut) = unsure_cut r sure cut

-- what each status says makes up the promise
headline_by : (r : Run) (s : Status) → IsKept r → r.status ≡ s → StatusCase r s → Headline r
headline_by r status.Done kept same (inl answered) = answered_headline r ending.Done kept same answered
headline_by r status.Done kept same (inr carried) = carried_headline r kept same carried.0 carried.1
headline_by r status.Infeasible kept same case = answered_headline r ending.Infeasible kept same case
headline_by r status.Spent kept same case = answered_headline r ending.Spent kept same case
headline_by r status.Words kept same case = answered_headline r ending.Words kept same case
headline_by r status.Refused kept same case = answered_headline r ending.Refused kept same case
headline_by r status.TooLong kept same case = answered_headline r ending.TooLong kept same case
headline_by r status.NotAccepted kept same case = answered_headline r ending.NotAccepted kept same case
headline_by r status.NotFeasible kept same case = answered_headline r ending.NotFeasible kept same case
headline_by r status.ReadFault kept same case = record {
  shelf = kept.shelf;
  writes = kept.writes;
  later = (
      let unsolved = case.1.1.1 in
      record { reads = case.0; writes = omega (arith, unsolved.writes); faults = omega (arith, case.1.0); ticks = omega (arith, unsolved.ticks); few = few_for r (omega (arith, unsolved.ticks)) });
  complete = λ sure. absurd (sure.reads case.1.1.1.rose);
  answer = λ e also. absurd (other_ending status.ReadFault e refl (sym also ∙ same));
  exact = λ e m also told. absurd (other_ending status.ReadFault e refl (sym also ∙ same));
  read_fault = λ also. case.1;
  write_fault = λ also. cc;
  no_memory = λ also. cc;
}
headline_by r status.WriteFault kept same case = record {
  shelf = kept.shelf;
  writes = kept.writes;
  later = case.0;
  complete = λ sure. absurd (unsure_write r sure case.1);
  answer = λ e also. absurd (other_ending status.WriteFault e refl (sym also ∙ same));
  exact = λ e m also told. absurd (other_ending status.WriteFault e refl (sym also ∙ same));
  read_fault = λ also. cc;
  write_fault = λ also. case.1;
  no_memory = λ also. cc;
}
headline_by r status.NoMemory kept same case = record {
  shelf = kept.shelf;
  writes = kept.writes;
  later = case.0;
  complete = λ sure. absurd (sure.memory same);
  answer = λ e also. absurd (other_ending status.NoMemory e refl (sym also ∙ same));
  exact = λ e m also told. absurd (other_ending status.NoMemory e refl (sym also ∙ same));
  read_fault = λ also. cc;
  write_fault = λ also. cc;
  no_memory = λ also. case.1;
}

pub headline_from : (r : Run) → KeepsNames r.words r.held r.held_after → (cert_name r.words ≡ None → r.writes_after ≡ r.writes) → StatusCase r r.status → Headline r
headline_from r shelf writes case = headline_by r r.status (record { shelf = shelf; writes = writes }) refl case
