-- Edited files are few enough to be numbered.
use Rattle.std.proofs.Common.{◌≡◌, ℕ, ◌+◌, ◌-◌, ◌<◌, ◌≤◌, ◌^◌, suc, Bool, true, false, cond, List, [], ◌∷◌, ◌++◌, length, take, drop, set, Option, Some, None, option_map, All, refl, subst, arith, inl, inr}
use Rattle.std.specs.Prelude.{remove}
use Rattle.std.specs.List.{list_any}
use Rattle.std.proofs.lemmas.Bool.{cases_lt}
use Rattle.std.proofs.lemmas.List.{length-append, length-set, length-take, length-drop, get_or_past}
use Rattle.std.proofs.lemmas.List.Elements.{All-append, All-cons, All-nil, All-set, All-take, All-drop}
use Rattle.stage_file.specs.declared.raw.Files.{Files}
use Rattle.stage_file.specs.Raw.{AreFiles}
use Rattle.stage_file.specs.Records.{Numbered, AreCountable, field_in}
use Rattle.stage_file.specs.Stages.{is_name_of}
use Rattle.edit_script.specs.declared.edit.Edit.{Edit}
use Rattle.edit_script.specs.declared.edit.Edit.TheVariants.{SetStage, AddStage, DropStage, SetTable, AddTable, DropTable, SetArc, AddArc, DropArc}
use Rattle.edit_script.specs.Names.{place_of, is_arc_of}
use Rattle.edit_script.specs.Edited.{holds_record, headed, appended, replaced, dropped, changed, with_field, row_at, stage_header, table_header, arc_header, with_stages, with_tables, with_arcs, edited}
use Rattle.edit_reuse.specs.Edits.{IsRoomy, HasRoom, IsShort}

-- the fields of a row can be numbered
abbrev Short : List (List ℕ) → Type 0
Short row = length row < 2 ^ 32

-- what an image of an option comes of
pub some_image : {A B : Type 0} (f : A → B) (x : Option A) (y : B) → option_map f x ≡ Some y → (z : A) × (x ≡ Some z) × (f z ≡ y)
some_image f None y is = cc
some_image f (Some z) y is = (z, refl, (cc))

headed_if : (some : Bool) (header : List (List ℕ)) (rows : List (List (List ℕ))) → AreCountable rows → Short header → length rows + 1 < 2 ^ 32
    → let all = cond some rows (rows ++ header ∷ []) in (length all ≤ length rows + 1) × All Short all
headed_if true header rows old short room = (omega arith, old.short_rows)
headed_if false header rows old short room =
    (omega (arith, length-append rows (header ∷ [])), All-append Short rows (header ∷ []) old.short_rows (All-cons Short header [] short (All-nil Short)))

put : (header row : List (List ℕ)) (rows : List (List (List ℕ))) → AreCountable rows → IsRoomy rows → Short header → Short row → AreCountable (appended header row rows)
put header row rows old room short_header short =
    let front = headed header rows in
    let with_header = headed_if (list_any holds_record rows) header rows old short_header (omega arith) in
    record {
      few_rows = omega (arith, with_header.0, length-append front (row ∷ []));
      short_rows = All-append Short front (row ∷ []) with_header.1 (All-cons Short row [] short (All-nil Short));
    }

set_at : (rows : List (List (List ℕ))) (k : ℕ) (row : List (List ℕ)) → AreCountable rows → Short row → AreCountable (set rows k row)
set_at rows k row old short = record {
  few_rows = (let same = length-set rows k row in omega (arith, same, old.few_rows));
  short_rows = All-set Short rows k row short old.short_rows;
}

taken : (rows : List (List (List ℕ))) (k : ℕ) → AreCountable rows → AreCountable (remove rows k)
taken rows k old = record {
  few_rows = omega (arith, length-append (take k rows) (drop (suc k) rows), length-take k rows, length-drop (suc k) rows, old.few_rows);
  short_rows = All-append Short (take k rows) (drop (suc k) rows) (All-take Short k rows old.short_rows) (All-drop Short (suc k) rows old.short_rows);
}

short_at : (rows : List (List (List ℕ))) (k : ℕ) → AreCountable rows → Short (row_at rows k)
short_at rows k old =
    elim (cases_lt k (length rows)) [
      | inl within ↦ old.short_rows k [] within
      | inr past ↦ (let none : row_at rows k ≡ [] = get_or_past rows k [] past in rw none (omega arith))
    ]

replaced_rows : (test : Numbered → Bool) (row : List (List ℕ)) (rows new : List (List (List ℕ))) → AreCountable rows → Short row → replaced test row rows ≡ Some new → AreCountable new
replaced_rows test row rows new old short is =
    let at = some_image (λ (k : ℕ). set rows k row) (place_of test rows) new is in
    subst AreCountable at.2 (set_at rows at.0 row old short)

dropped_rows : (test : Numbered → Bool) (rows new : List (List (List ℕ))) → AreCountable rows → dropped test rows ≡ Some new → AreCountable new
dropped_rows test rows new old is =
    let at = some_image (λ (k : ℕ). remove rows k) (place_of test rows) new is in
    subst AreCountable at.2 (taken rows at.0 old)

changed_rows : (test : Numbered → Bool) (column : ℕ) (value : List ℕ) (rows new : List (List (List ℕ))) → AreCountable rows → changed test column value rows ≡ Some new → AreCountable new
changed_rows test column value rows new old is =
    let at = some_image (λ (k : ℕ). set rows k (with_field column value (row_at rows k))) (place_of test rows) new is in
    let same = length-set (row_at rows at.0) (column - 1) value in
    subst AreCountable at.2 (set_at rows at.0 (with_field column value (row_at rows at.0)) old (omega (arith, same, short_at rows at.0 old)))

stages_with : (files : Files) (rows : List (List (List ℕ))) → AreFiles files → AreCountable rows → AreFiles (with_stages files rows)
stages_with files rows old new = record { stages = new; tables = old.tables; arcs = old.arcs }

tables_with : (files : Files) (rows : List (List (List ℕ))) → AreFiles files → AreCountable rows → AreFiles (with_tables files rows)
tables_with files rows old new = record { stages = old.stages; tables = new; arcs = old.arcs }

arcs_with : (files : Files) (rows : List (List (List ℕ))) → AreFiles files → AreCountable rows → AreFiles (with_arcs files rows)
arcs_with files rows old new = record { stages = old.stages; tables = old.tables; arcs = new }

-- where one file changes and its rows are few, so are those of all
one_file : (with : List (List (List ℕ)) → Files) (made : Option (List (List (List ℕ)))) (new : Files) → option_map with made ≡ Some new
    → ((rows : List (List (List ℕ))) → made ≡ Some rows → AreFiles (with rows)) → AreFiles new
one_file with made new is few = let at = some_image with made new is in subst AreFiles at.2 (few at.0 at.1)

always : (made new : Files) → Some made ≡ Some new → AreFiles made → AreFiles new
always made new is few = let same : made ≡ new = cc in subst AreFiles same few

pub edited_countable : (files new : Files) (e : Edit) → AreFiles files → HasRoom files → IsShort e → edited files e ≡ Some new → AreFiles new
edited_countable files new (SetStage name column value) old room short is =
    one_file (with_stages files) (changed (is_name_of name) column value files.stages) new is
    (λ rows made. stages_with files rows old (changed_rows (is_name_of name) column value files.stages rows old.stages made))
edited_countable files new (AddStage row) old room short is =
    always (with_stages files (appended stage_header row files.stages)) new is
    (stages_with files (appended stage_header row files.stages) old (put stage_header row files.stages old.stages room.stages (omega arith) short))
edited_countable files new (DropStage name) old room short is =
    one_file (with_stages files) (dropped (is_name_of name) files.stages) new is
    (λ rows made. stages_with files rows old (dropped_rows (is_name_of name) files.stages rows old.stages made))
edited_countable files new (SetTable row) old room short is =
    one_file (with_tables files) (replaced (is_name_of (field_in row 1)) row files.tables) new is
    (λ rows made. tables_with files rows old (replaced_rows (is_name_of (field_in row 1)) row files.tables rows old.tables short made))
edited_countable files new (AddTable row) old room short is =
    always (with_tables files (appended table_header row files.tables)) new is
    (tables_with files (appended table_header row files.tables) old (put table_header row files.tables old.tables room.tables (omega arith) short))
edited_countable files new (DropTable name) old room short is =
    one_file (with_tables files) (dropped (is_name_of name) files.tables) new is
    (λ rows made. tables_with files rows old (dropped_rows (is_name_of name) files.tables rows old.tables made))
edited_countable files new (SetArc row) old room short is =
    one_file (with_arcs files) (replaced (is_arc_of (field_in row 1) (field_in row 2)) row files.arcs) new is
    (λ rows made. arcs_with files rows old (replaced_rows (is_arc_of (field_in row 1) (field_in row 2)) row files.arcs rows old.arcs short made))
edited_countable files new (AddArc row) old room short is =
    always (with_arcs files (appended arc_header row files.arcs)) new is
    (arcs_with files (appended arc_header row files.arcs) old (put arc_header row files.arcs old.arcs room.arcs (omega arith) short))
edited_countable files new (DropArc supplier customer) old room short is =
    one_file (with_arcs files) (dropped (is_arc_of supplier customer) files.arcs) new is
    (λ rows made. arcs_with files rows old (dropped_rows (is_arc_of supplier customer) files.arcs rows old.arcs made))
