-- What carrying out a script leaves of a shelf, a sink and the count of filled tables.
use Rattle.std.specs.Prelude.{◌≡◌, ◌≤◌, ◌+◌, ◌⊎◌, ℕ, List, [], ◌∷◌, ◌++◌, length, take, Option, option_map, Result, Ok, Err}
use Rattle.gsm_outside.specs.Held.{Held}
use Rattle.gsm_outside.specs.Causes.{Rose}
use Rattle.gsm_outside.specs.Written.{put_behind}
use Rattle.cert_files.specs.Certificates.{bytes_in, put_cert, PutPart}
use Rattle.command_words.specs.declared.file_word.Naming.TheVariants.{Numbered}
use Rattle.command_words.specs.Names.{answer_name}
use Rattle.stock_report.specs.Lines.{lines_of}
use Rattle.edit_reuse.specs.Sessions.{State}
use Rattle.script_run.specs.declared.halt.Halt.{Halt}
use Rattle.script_run.specs.declared.halt.Halt.TheVariants as halt
use Rattle.script_run.specs.Parts.{Part, line_alone, IsRowDone}
use Rattle.script_run.specs.Runs.{IsRun, rows_in, certs_in, tables_in, end_row, put_parts}

-- what is seen of a shelf and a sink, before and after: what they tell, and their counts of failed writes
pub record Outside : Type 0 where
  pub held : Option Held
  pub held_after : Option Held
  pub writes : ℕ
  pub writes_after : ℕ
  pub written : Option (List ℕ)
  pub written_after : Option (List ℕ)
  pub faults : ℕ
  pub faults_after : ℕ

-- a shelf and a sink, by what is seen of them
abbrev pub outside_of : Option Held → Option Held → ℕ → ℕ → Option (List ℕ) → Option (List ℕ) → ℕ → ℕ → Outside
outside_of held held_after writes writes_after written written_after faults faults_after = record {
  held = held;
  held_after = held_after;
  writes = writes;
  writes_after = writes_after;
  written = written;
  written_after = written_after;
  faults = faults;
  faults_after = faults_after;
}

-- no call failed: the certificates of parts were written, where a name is asked for, and these lines
pub record IsGiven (name : Option (List ℕ)) (parts : List Part) (rows : List (List (List ℕ))) (o : Outside) : Type 0 where
  pub held : o.held_after ≡ put_parts name parts o.held
  pub writes : o.writes_after ≡ o.writes
  pub written : o.written_after ≡ put_behind (lines_of rows) o.written
  pub faults : o.faults_after ≡ o.faults

-- the name of a certificate by its number, where a name is asked for
abbrev pub numbered_name : Option (List ℕ) → ℕ → Option (List ℕ)
numbered_name name number = option_map (λ n. answer_name Numbered n number) name

-- the certificate of a next part is being written: the shelf holds those before it, and perhaps a front of its bytes; its line is not put
pub record IsBegun (name : Option (List ℕ)) (parts : List Part) (part : Part) (o : Outside) : Type 0 where
  pub held : PutPart (numbered_name name (length (certs_in parts) + 1)) (bytes_in part.cert) (put_parts name parts o.held) o.held_after
  pub writes : o.writes ≤ o.writes_after
  pub written : o.written_after ≡ put_behind (lines_of (rows_in parts)) o.written
  pub faults : o.faults_after ≡ o.faults

-- the line of a next part is being put: its certificate was written, and so was a front of the line
pub record IsUnput (name : Option (List ℕ)) (parts : List Part) (part : Part) (o : Outside) : Type 0 where
  pub held : o.held_after ≡ put_parts name (parts ++ part ∷ []) o.held
  pub writes : o.writes_after ≡ o.writes
  pub count : ℕ
  pub written : o.written_after ≡ put_behind (lines_of (rows_in parts) ++ take count (lines_of (part.row ∷ []))) o.written
  pub faults : o.faults ≤ o.faults_after

-- the part that comes next: that of the next row, or the last line behind all of them
abbrev pub IsNext : State → ℕ → List (List (List ℕ)) → List Part → Part → Type 0
IsNext at number [] parts part = part ≡ line_alone (end_row parts)
IsNext at number (row ∷ later) parts part = (next : State) × IsRowDone at number row next (part ∷ [])

-- what was given when a session was halted, so many parts being given whole: of the next one, if it was found, the certificate or the
-- line is being given
abbrev pub IsLeftAt : Halt → State → ℕ → List (List (List ℕ)) → Option (List ℕ) → List Part → Outside → Type 0
IsLeftAt halt.Shelf at number later name parts o =
    ((part : Part) × IsNext at number later parts part × IsBegun name parts part o) × Rose o.writes o.writes_after
IsLeftAt halt.Sink at number later name parts o =
    ((part : Part) × IsNext at number later parts part × IsUnput name parts part o) × Rose o.faults o.faults_after
IsLeftAt halt.NoMemory at number later name parts o =
    IsGiven name parts (rows_in parts) o
    ⊎ ((part : Part) × IsNext at number later parts part × IsBegun name parts part o)
    ⊎ ((part : Part) × IsNext at number later parts part × IsUnput name parts part o)

-- a session was carried out to the end of its script, which leaves it at another, and so many tables were filled
pub record IsCarriedOut (s last : State) (script : List (List (List ℕ))) (name : Option (List ℕ)) (o : Outside) (filled : ℕ) : Type 0 where
  pub parts : List Part
  pub run : IsRun s 1 script parts last
  pub given : IsGiven name parts (rows_in parts ++ end_row parts ∷ []) o
  pub filled_is : filled ≡ tables_in (certs_in parts)

-- it was halted behind the first rows of its script
pub record IsHalted (h : Halt) (s : State) (script : List (List (List ℕ))) (name : Option (List ℕ)) (o : Outside) : Type 0 where
  pub done : List (List (List ℕ))
  pub later : List (List (List ℕ))
  pub split : script ≡ done ++ later
  pub parts : List Part
  pub at : State
  pub run : IsRun s 1 done parts at
  pub left : IsLeftAt h at (length done + 1) later name parts o

-- what carrying out a script gives, by the session and the count of filled tables before and after
abbrev pub CarryCase : State → State → List (List (List ℕ)) → Option (List ℕ) → Outside → ℕ → ℕ → Result (Unit {0}) Halt → Type 0
CarryCase s last script name o ticks ticked (Ok done) = (filled : ℕ) × (ticked ≡ ticks + filled) × IsCarriedOut s last script name o filled
CarryCase s last script name o ticks ticked (Err h) = IsHalted h s script name o

-- a part was given
pub record IsPartGiven (name cert : Option (List ℕ)) (text : List ℕ) (o : Outside) : Type 0 where
  pub held : o.held_after ≡ put_cert name cert o.held
  pub writes : o.writes_after ≡ o.writes
  pub written : o.written_after ≡ put_behind text o.written
  pub faults : o.faults_after ≡ o.faults

-- its certificate was perhaps begun
pub record IsPartBegun (name cert : Option (List ℕ)) (o : Outside) : Type 0 where
  pub held : PutPart name cert o.held o.held_after
  pub writes : o.writes ≤ o.writes_after
  pub written : o.written_after ≡ o.written
  pub faults : o.faults_after ≡ o.faults

-- its certificate was written, and a front of its line
pub record IsPartUnput (name cert : Option (List ℕ)) (text : List ℕ) (o : Outside) : Type 0 where
  pub held : o.held_after ≡ put_cert name cert o.held
  pub writes : o.writes_after ≡ o.writes
  pub count : ℕ
  pub written : o.written_after ≡ put_behind (take count text) o.written
  pub faults : o.faults ≤ o.faults_after

-- what giving a part does: its certificate is written, if there is one and a name is asked for, and then its line is put
abbrev pub GiveCase : Option (List ℕ) → Option (List ℕ) → List ℕ → Outside → Result (Unit {0}) Halt → Type 0
GiveCase name cert text o (Ok done) = IsPartGiven name cert text o
GiveCase name cert text o (Err halt.Shelf) = IsPartBegun name cert o × Rose o.writes o.writes_after
GiveCase name cert text o (Err halt.Sink) = IsPartUnput name cert text o × Rose o.faults o.faults_after
GiveCase name cert text o (Err halt.NoMemory) = IsPartBegun name cert o ⊎ IsPartUnput name cert text o

-- no call was made on a shelf and a sink
pub record IsStill (o : Outside) : Type 0 where
  pub held : o.held_after ≡ o.held
  pub writes : o.writes_after ≡ o.writes
  pub written : o.written_after ≡ o.written
  pub faults : o.faults_after ≡ o.faults

-- the same under a name that is made first, for which memory may not suffice
abbrev pub NamedCase : Option (List ℕ) → Option (List ℕ) → List ℕ → Outside → Result (Unit {0}) Halt → Type 0
NamedCase name cert text o (Err halt.NoMemory) = IsStill o ⊎ IsPartBegun name cert o ⊎ IsPartUnput name cert text o
NamedCase name cert text o result = GiveCase name cert text o result
