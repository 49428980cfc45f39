use Rattle.std.proofs.Common.{ℕ, List, Option, ◌∙◌, subst, inl, arith}
use Rattle.gsm_outside.specs.Held.{Held}
use Rattle.command_words.specs.Asked.{cert_name}
use Rattle.cert_files.specs.Certificates.{bytes_in}
use Rattle.planner_top.specs.Runs.{run_of}
use Rattle.planner_top.specs.StatusCases.{given_of, GivenCase, CarriedCase}
use Rattle.script_run.specs.Halts.{outside_of}
use Rattle.planner_top.proofs.NoFileFacts.{no_name}
use Rattle.planner_top.proofs.SessionFacts.{carried_status}
use Rattle.cert_files.specs.Certificates.{KeepsOthers}
use Rattle.planner_top.proofs.StatusFacts.{given_case, fault_case, given_keeps}
use Rattle.planner_top.proofs.top.run_cases.Goals as goal

pub returns-in-Ok-Answer-clause-case : goal.returns-in-Ok-Answer-clause-case
returns-in-Ok-Answer-clause-case g c =
    let case = rw c.in-Ok-Answer.field-0-is at c.in-Ok-Answer.ensures.case in
    let shelf = c.args.shelf.now in
    let middle = c.answer_of.new.shelf in
    let after = c.give.new.shelf in
    let out = c.args.out.now in
    let out_after = c.give.new.out in
    let asked : Option (List ℕ) = cert_name c.args.words.now in
    let run = run_of c.args.words.now (g.S.Shelf.held shelf) (g.S.Shelf.held after) (g.S.Shelf.read_faults shelf) (g.S.Shelf.read_faults after) (g.S.Shelf.write_faults shelf) (g.S.Shelf.write_faults after) (g.K.Sink.written out) (g.K.Sink.written out_after) (g.K.Sink.faults out) (g.K.Sink.faults out_after) c.args.steps.now c.answer_of.new.steps c.give.result in
    let by : Option (List ℕ) → Option Held → ℕ → Type 0 = λ name held writes.
    GivenCase (given_of c.in-Ok-Answer.answer.ending c.in-Ok-Answer.answer.text name (bytes_in c.in-Ok-Answer.answer.cert) held (g.S.Shelf.held after) writes (g.S.Shelf.write_faults after) (g.K.Sink.written out) (g.K.Sink.written out_after) (g.K.Sink.faults out) (g.K.Sink.faults out_after)) c.give.result in
    let named : by asked (g.S.Shelf.held middle) (g.S.Shelf.write_faults middle) = subst (λ (name : Option (List ℕ)). by name (g.S.Shelf.held middle) (g.S.Shelf.write_faults middle)) c.cert_name.ensures c.give.ensures.case in
    let held : by asked (g.S.Shelf.held shelf) (g.S.Shelf.write_faults middle) = subst (λ (held : Option Held). by asked held (g.S.Shelf.write_faults middle)) c.answer_of.ensures.held named in
    let given : by asked (g.S.Shelf.held shelf) (g.S.Shelf.write_faults shelf) = subst (λ (writes : ℕ). by asked (g.S.Shelf.held shelf) writes) c.answer_of.ensures.writes held in
    given_case run c.in-Ok-Answer.answer.ending case.1.2.0 c.in-Ok-Answer.answer.text (bytes_in c.in-Ok-Answer.answer.cert) case.1.0 c.give.result case.1.2.1 (c.give.ensures.reads ∙ case.0) case.1.1 case.1.2.2 given

pub returns-in-Ok-Session-clause-case : goal.returns-in-Ok-Session-clause-case
returns-in-Ok-Session-clause-case g c =
    let case = rw c.in-Ok-Session.field-0-is at c.in-Ok-Session.ensures.case in
    let shelf = c.args.shelf.now in
    let middle = c.answer_of.new.shelf in
    let after = c.carry.new.shelf in
    let out = c.args.out.now in
    let out_after = c.carry.new.out in
    let asked : Option (List ℕ) = cert_name c.args.words.now in
    let run = run_of c.args.words.now (g.S.Shelf.held shelf) (g.S.Shelf.held after) (g.S.Shelf.read_faults shelf) (g.S.Shelf.read_faults after) (g.S.Shelf.write_faults shelf) (g.S.Shelf.write_faults after) (g.K.Sink.written out) (g.K.Sink.written out_after) (g.K.Sink.faults out) (g.K.Sink.faults out_after) c.args.steps.now c.carry.new.steps c.carry.result in
    let s = c.in-Ok-Session.session in
    let script = c.in-Ok-Session.script in
    let by : Option (List ℕ) → Option Held → ℕ → ℕ → Type 0 = λ name held writes ticks.
    CarriedCase s script name (outside_of held (g.S.Shelf.held after) writes (g.S.Shelf.write_faults after) (g.K.Sink.written out) (g.K.Sink.written out_after) (g.K.Sink.faults out) (g.K.Sink.faults out_after)) ticks c.carry.new.steps c.carry.result in
    let named : by asked (g.S.Shelf.held middle) (g.S.Shelf.write_faults middle) c.answer_of.new.steps = subst (λ (name : Option (List ℕ)). by name (g.S.Shelf.held middle) (g.S.Shelf.write_faults middle) c.answer_of.new.steps) c.cert_name-in-Ok-Session.ensures c.carry.ensures.case in
    let held : by asked (g.S.Shelf.held shelf) (g.S.Shelf.write_faults middle) c.answer_of.new.steps = subst (λ (held : Option Held). by asked held (g.S.Shelf.write_faults middle) c.answer_of.new.steps) c.answer_of.ensures.held named in
    let written : by asked (g.S.Shelf.held shelf) (g.S.Shelf.write_faults shelf) c.answer_of.new.steps = subst (λ (writes : ℕ). by asked (g.S.Shelf.held shelf) writes c.answer_of.new.steps) c.answer_of.ensures.writes held in
    let counted : by asked (g.S.Shelf.held shelf) (g.S.Shelf.write_faults shelf) c.args.steps.now = subst (λ (ticks : ℕ). by asked (g.S.Shelf.held shelf) (g.S.Shelf.write_faults shelf) ticks) case.1 written in
    let same = case.1 in
    let later = c.carry.ensures.later in
    let few = c.carry.ensures.few in
    carried_status run s script c.carry.result (c.carry.ensures.reads ∙ case.0) case.3 (omega (arith, same, later)) (omega (arith, same, few)) counted

pub returns-in-Err-Fault-clause-case : goal.returns-in-Err-Fault-clause-case
returns-in-Err-Fault-clause-case g c =
    let case = rw c.in-Err-Fault.field-0-is at c.in-Err-Fault.ensures.case in
    let shelf = c.args.shelf.now in
    let shelf_after = c.answer_of.new.shelf in
    let out = c.args.out.now in
    let out_after = c.print_fault.new.out in
    let run = run_of c.args.words.now (g.S.Shelf.held shelf) (g.S.Shelf.held shelf_after) (g.S.Shelf.read_faults shelf) (g.S.Shelf.read_faults shelf_after) (g.S.Shelf.write_faults shelf) (g.S.Shelf.write_faults shelf_after) (g.K.Sink.written out) (g.K.Sink.written out_after) (g.K.Sink.faults out) (g.K.Sink.faults out_after) c.args.steps.now c.answer_of.new.steps c.print_fault.result in
    fault_case run c.in-Err-Fault.file c.print_fault.result case.0
    (record { rose = case.1; ticks = case.3; unread = case.2; held = c.answer_of.ensures.held; writes = c.answer_of.ensures.writes }) c.print_fault.ensures

pub returns-in-Ok-Answer-clause-held : goal.returns-in-Ok-Answer-clause-held
returns-in-Ok-Answer-clause-held g c =
    let middle = g.S.Shelf.held c.answer_of.new.shelf in
    let after = g.S.Shelf.held c.give.new.shelf in
    let kept = given_keeps _ c.give.result c.give.ensures.case in
    let named : KeepsOthers (cert_name c.args.words.now) middle after = subst (λ (name : Option (List ℕ)). KeepsOthers name middle after) c.cert_name.ensures kept in
    inl (subst (λ (held : Option Held). KeepsOthers (cert_name c.args.words.now) held after) c.answer_of.ensures.held named)

pub returns-in-Ok-Answer-clause-untouched : goal.returns-in-Ok-Answer-clause-untouched
returns-in-Ok-Answer-clause-untouched g c =
    λ need. c.give.ensures.untouched (c.cert_name.ensures ∙ no_name c.args.words.now need) ∙ c.answer_of.ensures.untouched need
