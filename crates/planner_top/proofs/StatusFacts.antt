-- What a status says of a run, by what each of its calls left.
use Rattle.std.proofs.Common.{◌≡◌, ◌≤◌, ℕ, ◌+◌, List, [], ◌∷◌, ◌++◌, length, Option, option_map, refl, sym, ap, ◌∙◌, subst, arith, inl, inr}
use Rattle.std.proofs.Math.Seq.{take-length}
use Rattle.planner_top.specs.declared.filled.TheConstants.{MOST_FILLED}
use Rattle.command_words.specs.declared.file_word.FileWord.{FileWord}
use Rattle.planner_top.specs.declared.answer.Ending.{Ending}
use Rattle.planner_top.specs.declared.answer.Ending.TheVariants as ending
use Rattle.planner_top.specs.declared.status.Status.{Status}
use Rattle.planner_top.specs.declared.status.Status.TheVariants as status
use Rattle.command_words.specs.Asked.{cert_name}
use Rattle.stock_report.specs.Lines.{lines_of}
use Rattle.stock_report.specs.Refusals.{fault_row, write_fault_row}
use Rattle.planner_top.specs.Answers.{IsAnswer}
use Rattle.cert_files.specs.Certificates.{KeepsOthers}
use Rattle.cert_files.proofs.PutFacts.{cert_put_keeps, part_keeps}
use Rattle.planner_top.specs.Runs.{Run, Follows, PartFollows, IsLater}
use Rattle.planner_top.specs.Endings.{Answered, IsFound, status_of}
use Rattle.planner_top.specs.Faults.{IsUnsolved, IsUnwritten, PrintsFront}
use Rattle.planner_top.proofs.SessionFacts.{few_for}
use Rattle.planner_top.specs.StatusCases.{StatusCase, FaultCase, Given, given_of, PutsFront, TellsFront, PutsAll, GivenCase}

-- the answer that a run gives, by its text
abbrev pub given_with : Run → Ending → List ℕ → Option (List ℕ) → Given
given_with r e text cert =
    given_of e text (cert_name r.words) cert r.held r.held_after r.writes r.writes_after r.written r.written_after r.faults r.faults_after

-- the same, by its rows
abbrev given_in : Run → Ending → List (List (List ℕ)) → Option (List ℕ) → Given
given_in r e rows cert = given_with r e (lines_of rows) cert

found_ticks : (r : Run) (rows : List (List (List ℕ))) (cert : Option (List ℕ)) → IsFound r rows cert → (r.ticks ≤ r.ticks_after) × (r.ticks_after ≤ r.ticks + MOST_FILLED)
found_ticks r rows cert found = (let ticks = found.ticks in let few = found.answer.few in (omega (arith, ticks), omega (arith, ticks, few)))

later_by : (r : Run) (rows : List (List (List ℕ))) (cert : Option (List ℕ)) → IsFound r rows cert → r.writes ≤ r.writes_after → r.faults ≤ r.faults_after → IsLater r
later_by r rows cert found writes faults =
    let ticks = found_ticks r rows cert found in
    record { reads = omega (arith, found.reads); writes = writes; faults = faults; ticks = ticks.0; few = few_for r ticks.1 }

fronts_later : (r : Run) (e : Ending) (rows : List (List (List ℕ))) (cert : Option (List ℕ)) → IsFound r rows cert → PutsFront (given_in r e rows cert) → IsLater r
fronts_later r e rows cert found puts = later_by r rows cert found (omega (arith, puts.writes)) puts.faults

prints_front : (r : Run) (e : Ending) (rows : List (List (List ℕ))) (cert : Option (List ℕ)) → IsFound r rows cert → PutsFront (given_in r e rows cert) → PrintsFront r
prints_front r e rows cert found puts = record {
  rows = rows;
  printed = inl (record { cert = cert; found = found; written = puts.held; writes = puts.writes });
  front = puts.printed;
}

unwritten : (r : Run) (e : Ending) (rows : List (List (List ℕ))) (cert : Option (List ℕ)) → IsFound r rows cert → TellsFront (given_in r e rows cert) → IsUnwritten r
unwritten r e rows cert found tells = record { rose = tells.rose; begun = record { rows = rows; cert = cert; found = found; part = tells.held } }

tells_front : (r : Run) (e : Ending) (rows : List (List (List ℕ))) (cert : Option (List ℕ)) → IsFound r rows cert → TellsFront (given_in r e rows cert) → PrintsFront r
tells_front r e rows cert found tells = record {
  rows = write_fault_row ∷ [];
  printed = inr (inr (unwritten r e rows cert found tells, refl));
  front = tells.printed;
}

puts_all : (r : Run) (e : Ending) (rows : List (List (List ℕ))) (cert : Option (List ℕ)) (filled : ℕ) → r.reads_after ≡ r.reads → r.ticks_after ≡ r.ticks + filled
    → IsAnswer r.words r.held e rows filled cert → PutsAll (given_in r e rows cert) → Answered r e
puts_all r e rows cert filled reads ticks answer puts = (reads, puts.writes, puts.faults, (rows, filled, cert, ticks, answer, puts.printed, puts.held))

answered_case : (r : Run) (e : Ending) → Answered r e → StatusCase r (status_of e)
answered_case r ending.Done answered = inl answered
answered_case r ending.Infeasible answered = answered
answered_case r ending.Spent answered = answered
answered_case r ending.Words answered = answered
answered_case r ending.Refused answered = answered
answered_case r ending.TooLong answered = answered
answered_case r ending.NotAccepted answered = answered
answered_case r ending.NotFeasible answered = answered

-- an answer was found and given
pub given_case : (r : Run) (e : Ending) (rows : List (List (List ℕ))) (text : List ℕ) (cert : Option (List ℕ)) (filled : ℕ) (s : Status) → text ≡ lines_of rows → r.reads_after ≡ r.reads → r.ticks_after ≡ r.ticks + filled
    → IsAnswer r.words r.held e rows filled cert → GivenCase (given_with r e text cert) s → StatusCase r s
given_case r e rows text cert filled s told reads ticks answer case = from s (subst (λ (x : List ℕ). GivenCase (given_with r e x cert) s) told case)
  where
    found : IsFound r rows cert
    found = record { reads = reads; ending = e; filled = filled; ticks = ticks; answer = answer }

    whole : (s : Status) → (s ≡ status_of e) × PutsAll (given_in r e rows cert) → StatusCase r s
    whole s is = subst (StatusCase r) (sym is.0) (answered_case r e (puts_all r e rows cert filled reads ticks answer is.1))

    from : (s : Status) → GivenCase (given_in r e rows cert) s → StatusCase r s
    from status.WriteFault (inl puts) = (fronts_later r e rows cert found puts.0, inl (inl puts.1, prints_front r e rows cert found puts.0))
    from status.WriteFault (inr (tells, inl rose)) = (later_by r rows cert found tells.later tells.faults, inl (inl rose, tells_front r e rows cert found tells))
    from status.WriteFault (inr (tells, inr told)) =
        (later_by r rows cert found tells.later tells.faults, inl (inr (unwritten r e rows cert found tells, told), tells_front r e rows cert found tells))
    from status.NoMemory (inl puts) = (fronts_later r e rows cert found puts, inl (inr (inr (prints_front r e rows cert found puts))))
    from status.NoMemory (inr (inl tells)) = (later_by r rows cert found tells.later tells.faults, inl (inr (inr (tells_front r e rows cert found tells))))
    from status.NoMemory (inr (inr part)) =
        (later_by r rows cert found part.later (omega (arith, part.faults)), inl (inr (inl (record { written = part.printed; begun = record { rows = rows; cert = cert; found = found; part = part.held } }))))
    from status.Done is = whole status.Done is
    from status.Infeasible is = whole status.Infeasible is
    from status.Spent is = whole status.Spent is
    from status.Words is = whole status.Words is
    from status.Refused is = whole status.Refused is
    from status.TooLong is = whole status.TooLong is
    from status.ReadFault is = whole status.ReadFault is
    from status.NotAccepted is = whole status.NotAccepted is
    from status.NotFeasible is = whole status.NotFeasible is

-- where no table was filled, that count keeps its room
still : (r : Run) (word : FileWord) → IsUnsolved r word → r.reads ≤ r.reads_after → r.faults ≤ r.faults_after → IsLater r
still r word unsolved reads faults =
    record { reads = reads; writes = omega (arith, unsolved.writes); faults = faults; ticks = omega (arith, unsolved.ticks); few = few_for r (omega (arith, unsolved.ticks)) }

-- what is left of a run whose read failed
pub fault_case : (r : Run) (word : FileWord) (s : Status) → r.reads ≤ r.reads_after → IsUnsolved r word → FaultCase word r.written r.written_after r.faults r.faults_after s → StatusCase r s
fault_case r word status.ReadFault later unsolved case = (later, (case.0, (word, unsolved, case.1)))
fault_case r word status.WriteFault later unsolved case =
    (still r word unsolved later case.0, inl (inl case.1, record { rows = fault_row word ∷ []; printed = inr (inl (word, unsolved, refl)); front = case.2 }))
fault_case r word status.NoMemory later unsolved (faults, inl same) = (still r word unsolved later faults, inl (inl (record { written = same; held = unsolved.held; writes = unsolved.writes })))
fault_case r word status.NoMemory later unsolved (faults, inr part) =
    (still r word unsolved later faults, inl (inr (inr (record { rows = fault_row word ∷ []; printed = inr (inl (word, unsolved, refl)); front = part }))))
fault_case r word status.Done later unsolved case = absurd case
fault_case r word status.Infeasible later unsolved case = absurd case
fault_case r word status.Spent later unsolved case = absurd case
fault_case r word status.Words later unsolved case = absurd case
fault_case r word status.Refused later unsolved case = absurd case
fault_case r word status.TooLong later unsolved case = absurd case
fault_case r word status.NotAccepted later unsolved case = absurd case
fault_case r word status.NotFeasible later unsolved case = absurd case

-- a text that follows whole is the front of itself
pub all_is_front : (before after : Option (List ℕ)) (text : List ℕ) → Follows before text after → PartFollows before text after
all_is_front before after text follows =
    (length text, follows ∙ ap (λ (x : List ℕ). option_map (λ (bytes : List ℕ). bytes ++ x) before) (sym (take-length text)))

-- whatever its status, an answer that is given leaves the other names of the shelf
pub given_keeps : (g : Given) (s : Status) → GivenCase g s → KeepsOthers g.name g.held g.held_after
given_keeps g status.WriteFault (inl is) = cert_put_keeps g.name g.cert g.held g.held_after is.0.held
given_keeps g status.WriteFault (inr is) = part_keeps g.name g.cert g.held g.held_after is.0.held
given_keeps g status.NoMemory (inl is) = cert_put_keeps g.name g.cert g.held g.held_after is.held
given_keeps g status.NoMemory (inr (inl is)) = part_keeps g.name g.cert g.held g.held_after is.held
given_keeps g status.NoMemory (inr (inr is)) = part_keeps g.name g.cert g.held g.held_after is.held
given_keeps g status.Done is = cert_put_keeps g.name g.cert g.held g.held_after is.1.held
given_keeps g status.Infeasible is = cert_put_keeps g.name g.cert g.held g.held_after is.1.held
given_keeps g status.Spent is = cert_put_keeps g.name g.cert g.held g.held_after is.1.held
given_keeps g status.Words is = cert_put_keeps g.name g.cert g.held g.held_after is.1.held
given_keeps g status.Refused is = cert_put_keeps g.name g.cert g.held g.held_after is.1.held
given_keeps g status.TooLong is = cert_put_keeps g.name g.cert g.held g.held_after is.1.held
given_keeps g status.ReadFault is = cert_put_keeps g.name g.cert g.held g.held_after is.1.held
given_keeps g status.NotAccepted is = cert_put_keeps g.name g.cert g.held g.held_after is.1.held
given_keeps g status.NotFeasible is = cert_put_keeps g.name g.cert g.held g.held_after is.1.held
