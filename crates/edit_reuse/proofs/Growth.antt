-- An edit adds at most two rows.
use Rattle.std.proofs.Common.{◌≡◌, ℕ, ◌+◌, ◌≤◌, suc, Bool, true, false, cond, List, [], ◌∷◌, ◌++◌, length, take, drop, set, Option, Some, option_map, subst, arith}
use Rattle.std.specs.Prelude.{remove}
use Rattle.std.specs.List.{list_any}
use Rattle.std.proofs.lemmas.List.{length-append, length-set, length-take, length-drop}
use Rattle.stage_file.specs.declared.raw.Files.{Files}
use Rattle.stage_file.specs.Records.{field_in}
use Rattle.stage_file.specs.Stages.{is_name_of}
use Rattle.edit_script.specs.declared.edit.Edit.{Edit}
use Rattle.edit_script.specs.declared.edit.Edit.TheVariants.{SetStage, AddStage, DropStage, SetTable, AddTable, DropTable, SetArc, AddArc, DropArc}
use Rattle.edit_script.specs.Names.{place_of, is_arc_of}
use Rattle.edit_script.specs.Edited.{holds_record, headed, appended, replaced, dropped, changed, with_field, row_at, stage_header, table_header, arc_header, with_stages, with_tables, with_arcs, edited}
use Rattle.edit_reuse.specs.Edits.{GrowByTwo}
use Rattle.edit_reuse.proofs.Countable.{some_image}

headed_le : (some : Bool) (header : List (List ℕ)) (rows : List (List (List ℕ))) → length (cond some rows (rows ++ header ∷ [])) ≤ length rows + 1
headed_le true header rows = omega arith
headed_le false header rows = omega (arith, length-append rows (header ∷ []))

put_le : (header row : List (List ℕ)) (rows : List (List (List ℕ))) → length (appended header row rows) ≤ length rows + 2
put_le header row rows = omega (arith, headed_le (list_any holds_record rows) header rows, length-append (headed header rows) (row ∷ []))

taken_le : (rows : List (List (List ℕ))) (k : ℕ) → length (remove rows k) ≤ length rows
taken_le rows k = omega (arith, length-append (take k rows) (drop (suc k) rows), length-take k rows, length-drop (suc k) rows)

-- no more rows than before
abbrev NoMore : List (List (List ℕ)) → List (List (List ℕ)) → Type 0
NoMore old new = length new ≤ length old

set_le : (rows : List (List (List ℕ))) (row : ℕ → List (List ℕ)) (place : Option ℕ) (new : List (List (List ℕ))) → option_map (λ k. set rows k (row k)) place ≡ Some new → NoMore rows new
set_le rows row place new is =
    let at = some_image (λ (k : ℕ). set rows k (row k)) place new is in
    subst (NoMore rows) at.2 (omega (arith, length-set rows at.0 (row at.0)))

dropped_le : (rows : List (List (List ℕ))) (place : Option ℕ) (new : List (List (List ℕ))) → option_map (λ k. remove rows k) place ≡ Some new → NoMore rows new
dropped_le rows place new is =
    let at = some_image (λ (k : ℕ). remove rows k) place new is in
    subst (NoMore rows) at.2 (taken_le rows at.0)

stages_grow : (files : Files) (rows : List (List (List ℕ))) → length rows ≤ length files.stages + 2 → GrowByTwo files (with_stages files rows)
stages_grow files rows le = record { stages = le; tables = omega arith; arcs = omega arith }

tables_grow : (files : Files) (rows : List (List (List ℕ))) → length rows ≤ length files.tables + 2 → GrowByTwo files (with_tables files rows)
tables_grow files rows le = record { stages = omega arith; tables = le; arcs = omega arith }

arcs_grow : (files : Files) (rows : List (List (List ℕ))) → length rows ≤ length files.arcs + 2 → GrowByTwo files (with_arcs files rows)
arcs_grow files rows le = record { stages = omega arith; tables = omega arith; arcs = le }

one_grows : (old : Files) (with : List (List (List ℕ)) → Files) (made : Option (List (List (List ℕ)))) (new : Files) → option_map with made ≡ Some new
    → ((rows : List (List (List ℕ))) → made ≡ Some rows → GrowByTwo old (with rows)) → GrowByTwo old new
one_grows old with made new is few = let at = some_image with made new is in subst (GrowByTwo old) at.2 (few at.0 at.1)

added : (old made new : Files) → Some made ≡ Some new → GrowByTwo old made → GrowByTwo old new
added old made new is few = let same : made ≡ new = cc in subst (GrowByTwo old) same few

pub edited_grows : (files new : Files) (e : Edit) → edited files e ≡ Some new → GrowByTwo files new
edited_grows files new (SetStage name column value) is =
    one_grows files (with_stages files) (changed (is_name_of name) column value files.stages) new is
    (λ rows made. (let le = set_le files.stages (λ k. with_field column value (row_at files.stages k)) (place_of (is_name_of name) files.stages) rows made in stages_grow files rows (omega arith)))
edited_grows files new (AddStage row) is =
    added files (with_stages files (appended stage_header row files.stages)) new is (stages_grow files (appended stage_header row files.stages) (put_le stage_header row files.stages))
edited_grows files new (DropStage name) is =
    one_grows files (with_stages files) (dropped (is_name_of name) files.stages) new is
    (λ rows made. (let le = dropped_le files.stages (place_of (is_name_of name) files.stages) rows made in stages_grow files rows (omega arith)))
edited_grows files new (SetTable row) is =
    one_grows files (with_tables files) (replaced (is_name_of (field_in row 1)) row files.tables) new is
    (λ rows made. (let le = set_le files.tables (λ k. row) (place_of (is_name_of (field_in row 1)) files.tables) rows made in tables_grow files rows (omega arith)))
edited_grows files new (AddTable row) is =
    added files (with_tables files (appended table_header row files.tables)) new is (tables_grow files (appended table_header row files.tables) (put_le table_header row files.tables))
edited_grows files new (DropTable name) is =
    one_grows files (with_tables files) (dropped (is_name_of name) files.tables) new is
    (λ rows made. (let le = dropped_le files.tables (place_of (is_name_of name) files.tables) rows made in tables_grow files rows (omega arith)))
edited_grows files new (SetArc row) is =
    one_grows files (with_arcs files) (replaced (is_arc_of (field_in row 1) (field_in row 2)) row files.arcs) new is
    (λ rows made. (let le = set_le files.arcs (λ k. row) (place_of (is_arc_of (field_in row 1) (field_in row 2)) files.arcs) rows made in arcs_grow files rows (omega arith)))
edited_grows files new (AddArc row) is =
    added files (with_arcs files (appended arc_header row files.arcs)) new is (arcs_grow files (appended arc_header row files.arcs) (put_le arc_header row files.arcs))
edited_grows files new (DropArc supplier customer) is =
    one_grows files (with_arcs files) (dropped (is_arc_of supplier customer) files.arcs) new is
    (λ rows made. (let le = dropped_le files.arcs (place_of (is_arc_of supplier customer) files.arcs) rows made in arcs_grow files rows (omega arith)))
