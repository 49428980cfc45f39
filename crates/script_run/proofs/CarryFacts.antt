-- What was given, and one part more.
use Rattle.std.proofs.Common.{◌≡◌, ◌≤◌, ◌<◌, ℕ, suc, ◌+◌, Bool, true, false, List, [], ◌∷◌, ◌++◌, length, take, drop, get_or, Option, Some, None, Result, Ok, Err, refl, sym, ap, ◌∙◌, subst, arith, inl, inr, append_assoc}
use Rattle.std.proofs.lemmas.List.{append-nil, map-append, take-append-drop, take_more, length-take, length-append}
use Rattle.std.proofs.Math.Seq.{drop-cons}
use Rattle.stage_file.specs.declared.raw.Files.{Files}
use Rattle.edit_reuse.specs.Edits.{HasRoom, GrowByTwo}
use Rattle.script_run.specs.Sizes.{MayGrow}
use Rattle.std.proofs.lemmas.Grind.{flat_map-append}
use Rattle.csv.specs.Writing.{row_text, default_writer}
use Rattle.gsm_outside.specs.Held.{Held}
use Rattle.gsm_outside.specs.Causes.{Rose}
use Rattle.gsm_outside.specs.Written.{put_behind}
use Rattle.cert_files.specs.Certificates.{bytes_in, put_cert, PutPart}
use Rattle.stock_report.specs.Lines.{lines_of}
use Rattle.stock_report.specs.Sessions.{session_end_row}
use Rattle.edit_script.specs.Edited.{holds_record}
use Rattle.edit_script.specs.Steps.{step_of}
use Rattle.edit_reuse.specs.Sessions.{State}
use Rattle.service_model.specs.declared.cert.Cert.{Cert}
use Rattle.script_run.specs.declared.carry.Count.{Count}
use Rattle.script_run.specs.declared.told.Told.{Told}
use Rattle.script_run.specs.Told.{IsToldAs}
use Rattle.script_run.specs.declared.halt.Halt.{Halt}
use Rattle.script_run.specs.declared.halt.Halt.TheVariants as halt
use Rattle.script_run.specs.Parts.{Part, line_alone, IsStep, RowCase, IsRowDone}
use Rattle.script_run.specs.Runs.{IsRun, rows_in, cert_list, certs_in, tables_in, end_row, put_numbered, put_parts}
use Rattle.script_run.specs.Halts.{Outside, outside_of, IsGiven, numbered_name, IsBegun, IsUnput, IsLeftAt, IsHalted, CarryCase, IsPartGiven, IsPartBegun, IsPartUnput, IsStill, NamedCase}
use Rattle.script_run.specs.Progress.{IsSoFar, AreGrown, line_in, RowStepCase, RowCaseBy, IsEndPart, EndCase}
use Rattle.script_run.proofs.RunFacts.{run_more, put_more_parts, certs_more, tables_more}

-- a shelf and a sink before one call and after another
abbrev pub joined : Outside → Outside → Outside
joined a b = outside_of a.held b.held_after a.writes b.writes_after a.written b.written_after a.faults b.faults_after

-- one call began where another ended
pub record Meet (a b : Outside) : Type 0 where
  pub held : b.held ≡ a.held_after
  pub writes : b.writes ≡ a.writes_after
  pub written : b.written ≡ a.written_after
  pub faults : b.faults ≡ a.faults_after

put_twice : (a b : List ℕ) (written : Option (List ℕ)) → put_behind b (put_behind a written) ≡ put_behind (a ++ b) written
put_twice a b None = refl
put_twice a b (Some w) = ap Some (append_assoc w a b)

-- the lines of parts and of one more
lines_more : (parts : List Part) (row : List (List ℕ)) → lines_of (rows_in parts ++ row ∷ []) ≡ lines_of (rows_in parts) ++ lines_of (row ∷ [])
unfolding lines_of
lines_more parts row = flat_map-append (row_text default_writer) (rows_in parts) (row ∷ [])

rows_more : (parts : List Part) (part : Part) → lines_of (rows_in (parts ++ part ∷ [])) ≡ lines_of (rows_in parts) ++ line_in part
rows_more parts part = ap lines_of (map-append (λ (p : Part). p.row) parts (part ∷ [])) ∙ lines_more parts part.row

-- what was written before and a piece behind it
written_more : (name : Option (List ℕ)) (parts : List Part) (a b : Outside) (piece : List ℕ) → IsGiven name parts (rows_in parts) a → Meet a b → b.written_after ≡ put_behind piece b.written
    → b.written_after ≡ put_behind (lines_of (rows_in parts) ++ piece) a.written
written_more name parts a b piece given meet put =
    put ∙ ap (put_behind piece) (meet.written ∙ given.written) ∙ put_twice (lines_of (rows_in parts)) piece a.written

-- the certificates before and that of one part more
held_more : (name : Option (List ℕ)) (parts : List Part) (part : Part) (count : ℕ) (a b : Outside) → IsGiven name parts (rows_in parts) a → Meet a b → count ≡ length (certs_in parts)
    → b.held_after ≡ put_cert (numbered_name name (count + 1)) (bytes_in part.cert) b.held → b.held_after ≡ put_parts name (parts ++ part ∷ []) a.held
held_more name parts part count a b given meet same put =
    put ∙ ap (put_cert (numbered_name name (count + 1)) (bytes_in part.cert)) (meet.held ∙ given.held)
    ∙ ap (λ (k : ℕ). put_cert (numbered_name name (k + 1)) (bytes_in part.cert) (put_parts name parts a.held)) same ∙ sym (put_more_parts name parts part a.held)

-- one part more was given
given_more : (name : Option (List ℕ)) (parts : List Part) (part : Part) (count : ℕ) (a b : Outside) → IsGiven name parts (rows_in parts) a → Meet a b → count ≡ length (certs_in parts)
    → IsPartGiven (numbered_name name (count + 1)) (bytes_in part.cert) (line_in part) b → IsGiven name (parts ++ part ∷ []) (rows_in (parts ++ part ∷ [])) (joined a b)
given_more name parts part count a b given meet same more = record {
  held = held_more name parts part count a b given meet same more.held;
  writes = more.writes ∙ meet.writes ∙ given.writes;
  written = written_more name parts a b (line_in part) given meet more.written ∙ ap (λ (x : List ℕ). put_behind x a.written) (sym (rows_more parts part));
  faults = more.faults ∙ meet.faults ∙ given.faults;
}

-- a row that holds a record is its step
row_is : (at next : State) (number : ℕ) (row : List (List ℕ)) (part : Part) (holds : Bool) → holds ≡ true → IsStep at number (step_of row) next part → RowCase holds at number row next (part ∷ [])
row_is at next number row part holds is step = rw is (part, step, refl)

passed_by : (at : State) (number : ℕ) (row : List (List ℕ)) (holds : Bool) → holds ≡ false → RowCase holds at number row at []
passed_by at number row holds is = rw is (refl, refl)

none_put : (name : Option (List ℕ)) (held : Option Held) → held ≡ put_parts name [] held
unfolding put_numbered
none_put None held = refl
none_put (Some n) held = refl

none_written : (written : Option (List ℕ)) → written ≡ put_behind (lines_of []) written
unfolding lines_of
none_written None = refl
none_written (Some w) = ap Some (sym (append-nil w))

no_run : (old : State) → IsRun old 1 [] [] old
unfolding IsRun
no_run old = (refl, refl)

-- nothing was given yet
pub so_far_none : (old : State) (name : Option (List ℕ)) (held : Option Held) (writes : ℕ) (written : Option (List ℕ)) (faults ticks : ℕ) (count : Count) → count.lines ≡ 0 → count.certs ≡ 0
    → IsSoFar old old [] name (outside_of held held writes writes written written faults faults) ticks ticks count
so_far_none old name held writes written faults ticks count lines certs = record {
  parts = [];
  run = no_run old;
  given = record { held = none_put name held; writes = refl; written = none_written written; faults = refl };
  filled = (let none : ticks ≡ ticks + 0 = omega arith in none);
  lines = lines;
  certs = certs;
}

-- a row that holds no record is passed over
pub row_passed : (old at : State) (rows : List (List (List ℕ))) (row : List (List ℕ)) (name : Option (List ℕ)) (o : Outside) (ticks ticked : ℕ) (count : Count) → holds_record row ≡ false
    → IsSoFar old at rows name o ticks ticked count → IsSoFar old at (rows ++ row ∷ []) name o ticks ticked count
row_passed old at rows row name o ticks ticked count blank far =
    let same : 1 + length rows ≡ length rows + 1 = omega arith in
    let more = run_more old at at 1 rows row far.parts [] far.run (passed_by at (1 + length rows) row (holds_record row) blank) in
    record {
      parts = far.parts;
      run = subst (λ (x : List Part). IsRun old 1 (rows ++ row ∷ []) x at) (append-nil far.parts) more;
      given = far.given;
      filled = far.filled;
      lines = far.lines;
      certs = far.certs;
    }

counted : (n k : ℕ) → n + k ≡ k + n
counted n k = omega arith

-- one that holds one is carried out
pub row_given : (old at next : State) (rows : List (List (List ℕ))) (row : List (List ℕ)) (name : Option (List ℕ)) (a b : Outside) (ticks ticked later : ℕ) (before count : Count) → holds_record row ≡ true → Meet a b
    → IsSoFar old at rows name a ticks ticked before → RowStepCase at (length rows + 1) row next name b ticked later before count (Ok tt)
    → IsSoFar old next (rows ++ row ∷ []) name (joined a b) ticks later count
row_given old at next rows row name a b ticks ticked later before count holds meet far (part, step, given, filled, more) =
    let done = row_is at next (length rows + 1) row part (holds_record row) holds step in
    let here = subst (λ (k : ℕ). IsRowDone at k row next (part ∷ [])) (counted (length rows) 1) done in
    let tables = tables_more far.parts part in
    let certs = ap length (certs_more far.parts part) in
    record {
      parts = far.parts ++ part ∷ [];
      run = run_more old at next 1 rows row far.parts (part ∷ []) far.run here;
      given = given_more name far.parts part before.certs a b far.given meet far.certs given;
      filled = (let first = far.filled in omega (arith, first, filled, tables));
      lines = (let first = far.lines in let one = more.lines in let longer = length-append far.parts (part ∷ []) in omega (arith, first, one, longer));
      certs = (let first = far.certs in let one = more.certs in let longer = length-append (certs_in far.parts) (cert_list part.cert) in omega (arith, first, one, certs, longer));
    }

rises : (a b c : ℕ) → b ≡ a → Rose b c → Rose a c
rises a b c same rose = subst (λ (x : ℕ). Rose x c) same rose

-- the certificate of a next part was begun
begun_more : (name : Option (List ℕ)) (parts : List Part) (part : Part) (count : ℕ) (a b : Outside) → IsGiven name parts (rows_in parts) a → Meet a b → count ≡ length (certs_in parts)
    → IsPartBegun (numbered_name name (count + 1)) (bytes_in part.cert) b → IsBegun name parts part (joined a b)
begun_more name parts part count a b given meet same begun = record {
  held = subst (λ (k : ℕ). PutPart (numbered_name name (k + 1)) (bytes_in part.cert) (put_parts name parts a.held) b.held_after) same
      (subst (λ (h : Option Held). PutPart (numbered_name name (count + 1)) (bytes_in part.cert) h b.held_after) (meet.held ∙ given.held) begun.held);
  writes = (let first = given.writes in let then = meet.writes in let last = begun.writes in omega (arith, first, then, last));
  written = begun.written ∙ meet.written ∙ given.written;
  faults = begun.faults ∙ meet.faults ∙ given.faults;
}

-- the line of a next part was begun
unput_more : (name : Option (List ℕ)) (parts : List Part) (part : Part) (count : ℕ) (a b : Outside) → IsGiven name parts (rows_in parts) a → Meet a b → count ≡ length (certs_in parts)
    → IsPartUnput (numbered_name name (count + 1)) (bytes_in part.cert) (line_in part) b → IsUnput name parts part (joined a b)
unput_more name parts part count a b given meet same unput = record {
  held = held_more name parts part count a b given meet same unput.held;
  writes = unput.writes ∙ meet.writes ∙ given.writes;
  count = unput.count;
  written = written_more name parts a b (take unput.count (line_in part)) given meet unput.written;
  faults = (let first = given.faults in let then = meet.faults in let last = unput.faults in omega (arith, first, then, last));
}

-- nothing more was given
still_given : (name : Option (List ℕ)) (parts : List Part) (a b : Outside) → IsGiven name parts (rows_in parts) a → Meet a b → IsStill b → IsGiven name parts (rows_in parts) (joined a b)
still_given name parts a b given meet still = record {
  held = still.held ∙ meet.held ∙ given.held;
  writes = still.writes ∙ meet.writes ∙ given.writes;
  written = still.written ∙ meet.written ∙ given.written;
  faults = still.faults ∙ meet.faults ∙ given.faults;
}

-- what is left where a row was not given whole
row_left : (h : Halt) (old at next : State) (rows : List (List (List ℕ))) (row : List (List ℕ)) (later : List (List (List ℕ))) (name : Option (List ℕ)) (a b : Outside) (ticks ticked last : ℕ) (before count : Count) → holds_record row ≡ true → Meet a b
    → (far : IsSoFar old at rows name a ticks ticked before) → RowStepCase at (length rows + 1) row next name b ticked last before count (Err h)
    → IsLeftAt h at (length rows + 1) (row ∷ later) name far.parts (joined a b)
row_left halt.Shelf old at next rows row later name a b ticks ticked last before count holds meet far (part, step, begun, rose) =
    let done = row_is at next (length rows + 1) row part (holds_record row) holds step in
    ((part, (next, done), begun_more name far.parts part before.certs a b far.given meet far.certs begun), rises a.writes b.writes b.writes_after (meet.writes ∙ far.given.writes) rose)
row_left halt.Sink old at next rows row later name a b ticks ticked last before count holds meet far (part, step, unput, rose) =
    let done = row_is at next (length rows + 1) row part (holds_record row) holds step in
    ((part, (next, done), unput_more name far.parts part before.certs a b far.given meet far.certs unput), rises a.faults b.faults b.faults_after (meet.faults ∙ far.given.faults) rose)
row_left halt.NoMemory old at next rows row later name a b ticks ticked last before count holds meet far (inl still) = inl (still_given name far.parts a b far.given meet still)
row_left halt.NoMemory old at next rows row later name a b ticks ticked last before count holds meet far (inr (part, step, inl begun)) =
    let done = row_is at next (length rows + 1) row part (holds_record row) holds step in
    inr (inl (part, (next, done), begun_more name far.parts part before.certs a b far.given meet far.certs begun))
row_left halt.NoMemory old at next rows row later name a b ticks ticked last before count holds meet far (inr (part, step, inr unput)) =
    let done = row_is at next (length rows + 1) row part (holds_record row) holds step in
    inr (inr (part, (next, done), unput_more name far.parts part before.certs a b far.given meet far.certs unput))

-- a session is halted at a row
pub row_halted : (h : Halt) (old at next : State) (script rows : List (List (List ℕ))) (row : List (List ℕ)) (later : List (List (List ℕ))) (name : Option (List ℕ)) (a b : Outside) (ticks ticked last : ℕ) (before count : Count) → script ≡ rows ++ row ∷ later
    → holds_record row ≡ true → Meet a b → IsSoFar old at rows name a ticks ticked before → RowStepCase at (length rows + 1) row next name b ticked last before count (Err h) → IsHalted h old script name (joined a b)
row_halted h old at next script rows row later name a b ticks ticked last before count split holds meet far case = record {
  done = rows;
  later = row ∷ later;
  split = split;
  parts = far.parts;
  at = at;
  run = far.run;
  left = row_left h old at next rows row later name a b ticks ticked last before count holds meet far case;
}

-- ---- the line behind all others
-- a sink before a put and after it, beside a shelf that is left alone
abbrev pub put_alone : Outside → Option (List ℕ) → ℕ → Outside
put_alone a written faults = outside_of a.held_after a.held_after a.writes_after a.writes_after a.written_after written a.faults_after faults

meet_alone : (a : Outside) (written : Option (List ℕ)) (faults : ℕ) → Meet a (put_alone a written faults)
meet_alone a written faults = record { held = refl; writes = refl; written = refl; faults = refl }

none_named : (name : Option (List ℕ)) (held : Option Held) → held ≡ put_cert name None held
none_named None held = refl
none_named (Some n) held = refl

-- a front of it was put
end_unput : (name : Option (List ℕ)) (parts : List Part) (a : Outside) (written : Option (List ℕ)) (faults lines : ℕ) → IsGiven name parts (rows_in parts) a → lines ≡ length parts
    → IsEndPart lines a.written_after written a.faults_after faults → IsUnput name parts (line_alone (end_row parts)) (joined a (put_alone a written faults))
end_unput name parts a written faults lines given same part =
    unput_more name parts (line_alone (end_row parts)) (length (certs_in parts)) a (put_alone a written faults) given (meet_alone a written faults) refl
    (record {
      held = none_named (numbered_name name (length (certs_in parts) + 1)) a.held_after;
      writes = refl;
      count = part.0.0;
      written = part.0.1 ∙ ap (λ (k : ℕ). put_behind (take part.0.0 (lines_of (session_end_row k ∷ []))) a.written_after) same;
      faults = part.1;
    })

end_left : (h : Halt) (at : State) (number : ℕ) (name : Option (List ℕ)) (parts : List Part) (a : Outside) (written : Option (List ℕ)) (faults lines : ℕ) → IsGiven name parts (rows_in parts) a → lines ≡ length parts
    → EndCase lines a.written_after written a.faults_after faults (Err h) → IsLeftAt h at number [] name parts (joined a (put_alone a written faults))
end_left halt.Shelf at number name parts a written faults lines given same case = absurd case
end_left halt.Sink at number name parts a written faults lines given same case =
    ((line_alone (end_row parts), refl, end_unput name parts a written faults lines given same case.0), rises a.faults a.faults_after faults given.faults case.1)
end_left halt.NoMemory at number name parts a written faults lines given same (inl still) =
    inl (still_given name parts a (put_alone a written faults) given (meet_alone a written faults) (record { held = refl; writes = refl; written = still.0; faults = still.1 }))
end_left halt.NoMemory at number name parts a written faults lines given same (inr part) =
    inr (inr (line_alone (end_row parts), refl, end_unput name parts a written faults lines given same part))

end_given : (name : Option (List ℕ)) (parts : List Part) (a : Outside) (written : Option (List ℕ)) (faults lines : ℕ) → IsGiven name parts (rows_in parts) a → lines ≡ length parts
    → EndCase lines a.written_after written a.faults_after faults (Ok tt) → IsGiven name parts (rows_in parts ++ end_row parts ∷ []) (joined a (put_alone a written faults))
end_given name parts a written faults lines given same case =
    let put = case.0 ∙ ap (λ (k : ℕ). put_behind (lines_of (session_end_row k ∷ [])) a.written_after) same in
    record {
      held = given.held;
      writes = given.writes;
      written = written_more name parts a (put_alone a written faults) (lines_of (end_row parts ∷ [])) given (meet_alone a written faults) put
          ∙ ap (λ (x : List ℕ). put_behind x a.written) (sym (lines_more parts (end_row parts)));
      faults = case.1 ∙ given.faults;
    }

-- a session whose rows were all carried out ends, or is halted at its last line
pub session_ends : (old at : State) (script : List (List (List ℕ))) (name : Option (List ℕ)) (a : Outside) (written : Option (List ℕ)) (faults ticks ticked : ℕ) (count : Count) (r : Result (Unit {0}) Halt) → IsSoFar old at script name a ticks ticked count
    → EndCase count.lines a.written_after written a.faults_after faults r → CarryCase old at script name (joined a (put_alone a written faults)) ticks ticked r
session_ends old at script name a written faults ticks ticked count (Ok done) far case =
    (tables_in (certs_in far.parts), far.filled, record { parts = far.parts; run = far.run; given = end_given name far.parts a written faults count.lines far.given far.lines case; filled_is = refl })
session_ends old at script name a written faults ticks ticked count (Err h) far case = record {
  done = script;
  later = [];
  split = sym (append-nil script);
  parts = far.parts;
  at = at;
  run = far.run;
  left = end_left h at (length script + 1) name far.parts a written faults count.lines far.given far.lines case;
}

-- ---- what one row tells, given by its bytes
part_seen : (P : Option (List ℕ) → List ℕ → Type 0) (part : Part) (t : Told) → IsToldAs part t → P (bytes_in t.cert) t.text → P (bytes_in part.cert) (line_in part)
part_seen P part t is given =
    subst (λ (x : List ℕ). P (bytes_in part.cert) x) is.text (subst (λ (x : Option Cert). P (bytes_in x) t.text) is.cert given)

pub row_done : (old new : State) (number : ℕ) (row : List (List ℕ)) (name : Option (List ℕ)) (o : Outside) (ticks ticked : ℕ) (before count : Count) (part : Part) (t : Told) → IsStep old number (step_of row) new part → IsToldAs part t
    → NamedCase (numbered_name name (before.certs + 1)) (bytes_in t.cert) t.text o (Ok tt) → ticked ≡ ticks + tables_in (cert_list t.cert) → count.lines ≡ before.lines + 1 → count.certs ≡ before.certs + length (cert_list t.cert)
    → RowStepCase old number row new name o ticks ticked before count (Ok tt)
row_done old new number row name o ticks ticked before count part t step is given filled lines certs = (
  part,
  step,
  part_seen (λ c x. IsPartGiven (numbered_name name (before.certs + 1)) c x o) part t is given,
  subst (λ (x : Option Cert). ticked ≡ ticks + tables_in (cert_list x)) is.cert filled,
  record { lines = lines; certs = subst (λ (x : Option Cert). count.certs ≡ before.certs + length (cert_list x)) is.cert certs },
)

pub row_undone : (h : Halt) (old new : State) (number : ℕ) (row : List (List ℕ)) (name : Option (List ℕ)) (o : Outside) (ticks ticked : ℕ) (before count : Count) (part : Part) (t : Told) → IsStep old number (step_of row) new part → IsToldAs part t
    → NamedCase (numbered_name name (before.certs + 1)) (bytes_in t.cert) t.text o (Err h) → RowStepCase old number row new name o ticks ticked before count (Err h)
row_undone halt.Shelf old new number row name o ticks ticked before count part t step is (begun, rose) =
    (part, step, part_seen (λ c x. IsPartBegun (numbered_name name (before.certs + 1)) c o) part t is begun, rose)
row_undone halt.Sink old new number row name o ticks ticked before count part t step is (unput, rose) =
    (part, step, part_seen (λ c x. IsPartUnput (numbered_name name (before.certs + 1)) c x o) part t is unput, rose)
row_undone halt.NoMemory old new number row name o ticks ticked before count part t step is (inl still) = inl still
row_undone halt.NoMemory old new number row name o ticks ticked before count part t step is (inr (inl begun)) =
    inr (part, step, inl (part_seen (λ c x. IsPartBegun (numbered_name name (before.certs + 1)) c o) part t is begun))
row_undone halt.NoMemory old new number row name o ticks ticked before count part t step is (inr (inr unput)) =
    inr (part, step, inr (part_seen (λ c x. IsPartUnput (numbered_name name (before.certs + 1)) c x o) part t is unput))

-- ---- the rows of a script, one after another
ended_by : (old at next : State) (rows : List (List (List ℕ))) (row : List (List ℕ)) (name : Option (List ℕ)) (a b : Outside) (ticks ticked last : ℕ) (before count : Count) (holds : Bool) → holds_record row ≡ holds → Meet a b
    → IsSoFar old at rows name a ticks ticked before → RowCaseBy holds at (length rows + 1) row next name b ticked last before count (Ok tt) → IsSoFar old next (rows ++ row ∷ []) name (joined a b) ticks last count
ended_by old at next rows row name a b ticks ticked last before count true is meet far case = row_given old at next rows row name a b ticks ticked last before count is meet far case
ended_by old at next rows row name a b ticks ticked last before count false is meet far case =
    let passed = row_passed old at rows row name a ticks ticked before is far in
    subst (λ (x : State). IsSoFar old x (rows ++ row ∷ []) name (joined a b) ticks last count) (sym case.1)
    (subst (λ (x : Count). IsSoFar old at (rows ++ row ∷ []) name (joined a b) ticks last x) (sym case.4) (record {
      parts = passed.parts;
      run = passed.run;
      given = still_given name passed.parts a b passed.given meet case.2;
      filled = case.3 ∙ passed.filled;
      lines = passed.lines;
      certs = passed.certs;
    }))

-- the next row was carried out
pub next_row : (old at next : State) (script : List (List (List ℕ))) (k : ℕ) (row : List (List ℕ)) (name : Option (List ℕ)) (a b : Outside) (ticks ticked last : ℕ) (before count : Count) → k < length script → get_or script k row ≡ row → Meet a b
    → IsSoFar old at (take k script) name a ticks ticked before → RowCaseBy (holds_record row) at (k + 1) row next name b ticked last before count (Ok tt) → IsSoFar old next (take (k + 1) script) name (joined a b) ticks last count
next_row old at next script k row name a b ticks ticked last before count within here meet far case =
    let front : length (take k script) ≡ k = omega (arith, within, length-take k script) in
    let more : take (k + 1) script ≡ take k script ++ row ∷ [] = take_more script k row within ∙ ap (λ y. take k script ++ y ∷ []) here in
    let numbered = subst (λ (n : ℕ). RowCaseBy (holds_record row) at (n + 1) row next name b ticked last before count (Ok tt)) (sym front) case in
    subst (λ (x : List (List (List ℕ))). IsSoFar old next x name (joined a b) ticks last count) (sym more)
    (ended_by old at next (take k script) row name a b ticks ticked last before count (holds_record row) refl meet far numbered)

halted_by : (h : Halt) (old at next : State) (script rows : List (List (List ℕ))) (row : List (List ℕ)) (later : List (List (List ℕ))) (name : Option (List ℕ)) (a b : Outside) (ticks ticked last : ℕ) (before count : Count) (holds : Bool) → holds_record row ≡ holds
    → script ≡ rows ++ row ∷ later → Meet a b → IsSoFar old at rows name a ticks ticked before → RowCaseBy holds at (length rows + 1) row next name b ticked last before count (Err h) → IsHalted h old script name (joined a b)
halted_by h old at next script rows row later name a b ticks ticked last before count true is split meet far case = row_halted h old at next script rows row later name a b ticks ticked last before count split is meet far case
halted_by h old at next script rows row later name a b ticks ticked last before count false is split meet far case = (let none = case.0 in cc)

-- the session was halted at the next row
pub halted_row : (h : Halt) (old at next : State) (script : List (List (List ℕ))) (k : ℕ) (row : List (List ℕ)) (name : Option (List ℕ)) (a b : Outside) (ticks ticked last : ℕ) (before count : Count) → k < length script → get_or script k row ≡ row → Meet a b
    → IsSoFar old at (take k script) name a ticks ticked before → RowCaseBy (holds_record row) at (k + 1) row next name b ticked last before count (Err h) → IsHalted h old script name (joined a b)
halted_row h old at next script k row name a b ticks ticked last before count within here meet far case =
    let front : length (take k script) ≡ k = omega (arith, within, length-take k script) in
    let split : script ≡ take k script ++ row ∷ drop (suc k) script =
    sym (take-append-drop k script) ∙ ap (λ (x : List (List (List ℕ))). take k script ++ x) (drop-cons script k row within ∙ ap (λ y. y ∷ drop (suc k) script) here) in
    let numbered = subst (λ (n : ℕ). RowCaseBy (holds_record row) at (n + 1) row next name b ticked last before count (Err h)) (sym front) case in
    halted_by h old at next script (take k script) row (drop (suc k) script) name a b ticks ticked last before count (holds_record row) refl split meet far numbered

-- two rows more can be numbered, and what was grown by them
pub has_room : (old new : Files) (rows k : ℕ) → MayGrow old rows → AreGrown old new k → k < rows → HasRoom new
has_room old new rows k may grown within =
    let a = may.stages in let b = grown.stages in let c = may.tables in let d = grown.tables in let e = may.arcs in let f = grown.arcs in
    record { stages = omega (arith, a, b, within); tables = omega (arith, c, d, within); arcs = omega (arith, e, f, within) }

pub grown_more : (old mid new : Files) (k : ℕ) → AreGrown old mid k → GrowByTwo mid new → AreGrown old new (k + 1)
grown_more old mid new k grown two =
    let a = two.stages in let b = grown.stages in let c = two.tables in let d = grown.tables in let e = two.arcs in let f = grown.arcs in
    record { stages = omega (arith, a, b); tables = omega (arith, c, d); arcs = omega (arith, e, f) }

-- the files have not grown yet
pub not_grown : (files : Files) → AreGrown files files 0
not_grown files = record { stages = omega arith; tables = omega arith; arcs = omega arith }

-- a count is of no more rows than were carried out
lines_by : (holds : Bool) (old new : State) (number : ℕ) (row : List (List ℕ)) (name : Option (List ℕ)) (o : Outside) (ticks ticked : ℕ) (before count : Count) → RowCaseBy holds old number row new name o ticks ticked before count (Ok tt)
    → (count.lines ≤ before.lines + 1) × (count.certs ≤ before.certs + 1)
lines_by true old new number row name o ticks ticked before count (part, step, given, filled, more) =
    let lines = more.lines in
    let certs = more.certs in
    let one = one_cert part.cert in
    (omega (arith, lines), omega (arith, certs, one))
  where
    one_cert : (cert : Option Cert) → length (cert_list cert) ≤ 1
    one_cert None = omega arith
    one_cert (Some c) = omega arith
lines_by false old new number row name o ticks ticked before count case = (
  subst (λ (x : Count). x.lines ≤ before.lines + 1) (sym case.4) (let low : before.lines ≤ before.lines + 1 = omega arith in low),
  subst (λ (x : Count). x.certs ≤ before.certs + 1) (sym case.4) (let low : before.certs ≤ before.certs + 1 = omega arith in low),
)

pub counted_more : (old new : State) (number : ℕ) (row : List (List ℕ)) (name : Option (List ℕ)) (o : Outside) (ticks ticked : ℕ) (before count : Count) → RowCaseBy (holds_record row) old number row new name o ticks ticked before count (Ok tt)
    → (count.lines ≤ before.lines + 1) × (count.certs ≤ before.certs + 1)
counted_more old new number row name o ticks ticked before count case = lines_by (holds_record row) old new number row name o ticks ticked before count case
