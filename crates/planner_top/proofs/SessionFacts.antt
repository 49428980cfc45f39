-- What a status says of a run that carried out a session.
use Rattle.std.proofs.Common.{◌≡◌, ◌≤◌, ℕ, ◌+◌, List, Result, Ok, Err, refl, arith, inl, inr}
use Rattle.command_words.specs.Asked.{Asked, asked_of, cert_name}
use Rattle.command_words.specs.declared.command.Command.{Command}
use Rattle.command_words.specs.declared.command.Command.TheVariants as command
use Rattle.command_words.specs.declared.word_fault.WordFault.{WordFault}
use Rattle.edit_reuse.specs.Sessions.{State}
use Rattle.script_run.specs.declared.halt.Halt.TheVariants as halt
use Rattle.script_run.proofs.HaltFacts.{halted_later, carried_later}
use Rattle.planner_top.specs.declared.filled.TheConstants.{MOST_FILLED, MOST_IN_SESSION}
use Rattle.planner_top.specs.declared.status.Status.{Status}
use Rattle.planner_top.specs.declared.status.Status.TheVariants as status
use Rattle.planner_top.specs.Runs.{Run, most_of, most_for, IsLater}
use Rattle.planner_top.specs.Sessions.{AsksSession, IsSessionOf, outside_in}
use Rattle.planner_top.specs.StatusCases.{StatusCase, CarriedCase}

most_by : (c : Command) → MOST_FILLED ≤ most_of c
most_by command.Solve = omega arith
most_by command.Audit = omega arith
most_by command.Check = omega arith
most_by command.Explain = omega arith
most_by command.Clusters = omega arith
most_by command.Trial = omega arith
most_by command.Session = omega arith

most_at_least : (a : Result Asked WordFault) → MOST_FILLED ≤ most_for a
most_at_least (Ok q) = most_by q.command
most_at_least (Err fault) = omega arith

-- what one answer fills is no more than what a run may fill
pub few_for : (r : Run) → r.ticks_after ≤ r.ticks + MOST_FILLED → r.ticks_after ≤ r.ticks + most_for (asked_of r.words)
few_for r few = (let most = most_at_least (asked_of r.words) in omega (arith, few, most))

few_in_session : (r : Run) → AsksSession r.words → r.ticks_after ≤ r.ticks + MOST_IN_SESSION → r.ticks_after ≤ r.ticks + most_for (asked_of r.words)
few_in_session r (q, asked, is) few =
    let most : most_for (asked_of r.words) ≡ MOST_IN_SESSION = rw asked (rw is refl) in
    omega (arith, few, most)

later_with : (r : Run) → r.reads_after ≡ r.reads → AsksSession r.words → r.writes ≤ r.writes_after → r.faults ≤ r.faults_after → r.ticks ≤ r.ticks_after → r.ticks_after ≤ r.ticks + MOST_IN_SESSION → IsLater r
later_with r reads asks writes faults ticks few = record { reads = omega (arith, reads); writes = writes; faults = faults; ticks = ticks; few = few_in_session r asks few }

pub carried_status : (r : Run) (s : State) (script : List (List (List ℕ))) (t : Status) → r.reads_after ≡ r.reads → IsSessionOf r.words r.held s script → r.ticks ≤ r.ticks_after → r.ticks_after ≤ r.ticks + MOST_IN_SESSION
    → CarriedCase s script (cert_name r.words) (outside_in r) r.ticks r.ticks_after t → StatusCase r t
carried_status r s script status.Done reads of ticks few (last, filled, counted, out) =
    let later = carried_later s last script (cert_name r.words) (outside_in r) filled out in
    inr (later_with r reads of.0 later.writes later.faults ticks few, (reads, (s, script, of, (last, filled, counted, out))))
carried_status r s script status.WriteFault reads of ticks few (inl halted) =
    let later = halted_later halt.Sink s script (cert_name r.words) (outside_in r) halted in
    (later_with r reads of.0 later.writes later.faults ticks few, inr (inl (reads, (s, script, of, halted))))
carried_status r s script status.WriteFault reads of ticks few (inr (written, halted, told)) =
    let later = halted_later halt.Shelf s script (cert_name r.words) _ halted in
    (later_with r reads of.0 later.writes told.0 ticks few, inr (inr (written, (reads, (s, script, of, halted)), told.1, told.2)))
carried_status r s script status.NoMemory reads of ticks few (inl halted) =
    let later = halted_later halt.NoMemory s script (cert_name r.words) (outside_in r) halted in
    (later_with r reads of.0 later.writes later.faults ticks few, inr (inl (reads, (s, script, of, halted))))
carried_status r s script status.NoMemory reads of ticks few (inr (written, halted, told)) =
    let later = halted_later halt.Shelf s script (cert_name r.words) _ halted in
    (later_with r reads of.0 later.writes told.0 ticks few, inr (inr (written, (reads, (s, script, of, halted)), told.1)))
carried_status r s script status.Infeasible reads of ticks few case = absurd case
carried_status r s script status.Spent reads of ticks few case = absurd case
carried_status r s script status.Words reads of ticks few case = absurd case
carried_status r s script status.Refused reads of ticks few case = absurd case
carried_status r s script status.TooLong reads of ticks few case = absurd case
carried_status r s script status.ReadFault reads of ticks few case = absurd case
carried_status r s script status.NotAccepted reads of ticks few case = absurd case
carried_status r s script status.NotFeasible reads of ticks few case = absurd case
