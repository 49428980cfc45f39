use Rattle.std.proofs.Common.{◌≡◌, ◌<◌, ℕ, List, Option, Err, length, take, refl, ◌∙◌, subst, arith}
use Rattle.std.specs.Prelude.{option_map}
use Rattle.std.proofs.lemmas.List.{take_all}
use Rattle.script_run.specs.Halts.{outside_of, Outside}
use Rattle.script_run.specs.Progress.{IsSoFar}
use Rattle.script_run.proofs.CarryFacts.{so_far_none, next_row, halted_row, session_ends, not_grown, has_room, grown_more, counted_more}
use Rattle.script_run.proofs.HaltFacts.{carry_keeps}
use Rattle.script_run.proofs.carry.carry_out.Goals as goal

pub rows-init : goal.rows-init
rows-init g c = record {
  far = so_far_none c.args.session.now _ (g.S.Shelf.held c.args.shelf.now) (g.S.Shelf.write_faults c.args.shelf.now) (g.K.Sink.written c.args.out.now) (g.K.Sink.faults c.args.out.now) c.args.steps.now _ refl refl;
  grown = not_grown c.args.session.now.files;
  lines = omega arith;
  certs = omega arith;
  later = omega arith;
  few = omega arith;
  reads = refl;
  unnamed = λ none. refl;
}

pub carry_row-requires-clause-room : goal.carry_row-requires-clause-room
carry_row-requires-clause-room g c =
    has_room c.args.session.now.files c.rows.session.files (length c.args.script.now) c.rows.k c.requires.grows c.rows.invariant.grown (subst (λ (n : ℕ). c.rows.k < n) c.len-k-end.ensures c.rows-test.true)

pub rows-preserved : goal.rows-preserved
rows-preserved g c =
    let within : c.rows.k < length c.args.script.now = subst (λ (n : ℕ). c.rows.k < n) c.len-k-end.ensures c.rows-test.true in
    let row = c.get-row.result.now in
    let case = c.in-Ok.ensures.case in
    let far = c.rows.invariant.far in
    let lines = c.rows.invariant.lines in
    let certs = c.rows.invariant.certs in
    let more = counted_more _ _ _ row _ _ _ _ c.rows.count _ case in
    record {
      far = next_row c.args.session.now c.rows.session c.carry_row.new.session c.args.script.now c.rows.k row _ _ _ c.args.steps.now c.rows.steps c.carry_row.new.steps c.rows.count c.carry_row.new.count within (c.get-row.ensures.whatever_else row) (record { held = refl; writes = refl; written = refl; faults = refl }) far case;
      grown = grown_more c.args.session.now.files c.rows.session.files _ c.rows.k c.rows.invariant.grown c.in-Ok.ensures.grown;
      lines = (let one = more.0 in omega (arith, one, lines));
      certs = (let one = more.1 in omega (arith, one, certs));
      later = (let a = c.rows.invariant.later in let b = c.in-Ok.ensures.later in omega (arith, a, b));
      few = (let a = c.rows.invariant.few in let b = c.in-Ok.ensures.few in omega (arith, a, b));
      reads = c.in-Ok.ensures.reads ∙ c.rows.invariant.reads;
      unnamed = λ none. c.in-Ok.ensures.unnamed none ∙ c.rows.invariant.unnamed none;
    }

pub returns-in-Err-clause-case : goal.returns-in-Err-clause-case
returns-in-Err-clause-case g c =
    let within : c.rows.k < length c.args.script.now = subst (λ (n : ℕ). c.rows.k < n) c.len-k-end.ensures c.rows-test.true in
    let row = c.get-row.result.now in
    halted_row c.in-Err.halt c.args.session.now c.rows.session c.carry_row.new.session c.args.script.now c.rows.k row _ _ _ c.args.steps.now c.rows.steps c.carry_row.new.steps c.rows.count c.carry_row.new.count within (c.get-row.ensures.whatever_else row) (record { held = refl; writes = refl; written = refl; faults = refl }) c.rows.invariant.far c.in-Err.ensures.case

pub returns-clause-case : goal.returns-clause-case
returns-clause-case g c =
    let name : Option (List ℕ) = option_map (λ n. n.now) c.args.name in
    let before : Outside = outside_of (g.S.Shelf.held c.args.shelf.now) (g.S.Shelf.held c.rows.shelf) (g.S.Shelf.write_faults c.args.shelf.now) (g.S.Shelf.write_faults c.rows.shelf) (g.K.Sink.written c.args.out.now) (g.K.Sink.written c.rows.out) (g.K.Sink.faults c.args.out.now) (g.K.Sink.faults c.rows.out) in
    let all : take c.rows.k c.args.script.now ≡ c.args.script.now = take_all c.rows.k c.args.script.now (let end = c.rows-test.false in let len = c.len-k-end.ensures in omega (arith, end, len)) in
    let far : IsSoFar c.args.session.now c.rows.session c.args.script.now name before c.args.steps.now c.rows.steps c.rows.count =
    subst (λ (x : List (List (List ℕ))). IsSoFar c.args.session.now c.rows.session x name before c.args.steps.now c.rows.steps c.rows.count) all c.rows.invariant.far in
    session_ends c.args.session.now c.rows.session c.args.script.now name before (g.K.Sink.written c.put_end.new.out) (g.K.Sink.faults c.put_end.new.out) c.args.steps.now c.rows.steps c.rows.count c.put_end.result far c.put_end.ensures

pub returns-in-Err-clause-kept : goal.returns-in-Err-clause-kept
returns-in-Err-clause-kept g c =
    let name : Option (List ℕ) = option_map (λ n. n.now) c.args.name in
    let whole : Outside = outside_of (g.S.Shelf.held c.args.shelf.now) (g.S.Shelf.held c.carry_row.new.shelf) (g.S.Shelf.write_faults c.args.shelf.now) (g.S.Shelf.write_faults c.carry_row.new.shelf) (g.K.Sink.written c.args.out.now) (g.K.Sink.written c.carry_row.new.out) (g.K.Sink.faults c.args.out.now) (g.K.Sink.faults c.carry_row.new.out) in
    carry_keeps c.args.session.now c.carry_row.new.session c.args.script.now name whole c.args.steps.now c.carry_row.new.steps (Err c.in-Err.halt) (returns-in-Err-clause-case g c)
