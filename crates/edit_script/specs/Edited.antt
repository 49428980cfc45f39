-- The files behind an edit.
use Rattle.std.specs.Prelude.{◌≡◌, ℕ, ◌-◌, ◌≤◌, ◌==◌, Bool, not, List, [], ◌∷◌, ◌++◌, length, slice_index_or, slice_set, remove, codes, Option, Some, None, IfSome, option_map, Result, Ok, Err, ⊤, if◌then◌else◌}
use Rattle.std.specs.List.{list_any}
use Rattle.stage_file.specs.declared.raw.Files.{Files}
use Rattle.stage_file.specs.Rows.{without_blank_end}
use Rattle.stage_file.specs.Records.{Numbered, field_in}
use Rattle.stage_file.specs.Stages.{is_name_of}
use Rattle.edit_script.specs.declared.edit.Edit.{Edit}
use Rattle.edit_script.specs.declared.edit.Edit.TheVariants.{SetStage, AddStage, DropStage, SetTable, AddTable, DropTable, SetArc, AddArc, DropArc}
use Rattle.edit_script.specs.declared.edit.ApplyFault.{ApplyFault}
use Rattle.edit_script.specs.declared.edit.ApplyFault.TheVariants.{Unknown, NoMemory}
use Rattle.edit_script.specs.Names.{place_of, is_arc_of}

-- the usual header of a stage file
abbrev pub stage_header : List (List ℕ)
stage_header =
    codes "stage" ∷ codes "lead" ∷ codes "supply" ∷ codes "least" ∷ codes "most" ∷ codes "bound" ∷ codes "unit" ∷ []

-- the usual header of a table file
abbrev pub table_header : List (List ℕ)
table_header = codes "table" ∷ codes "x" ∷ []

-- the usual header of an arc file
abbrev pub arc_header : List (List ℕ)
arc_header = codes "supplier" ∷ codes "customer" ∷ codes "quantity" ∷ []

-- a row holds a record: something is left of it
abbrev pub holds_record : List (List ℕ) → Bool
holds_record row = not (length (without_blank_end row) == 0)

-- rows with a header, which is the usual one where they hold no record
abbrev pub headed : List (List ℕ) → List (List (List ℕ)) → List (List (List ℕ))
headed header rows = if list_any holds_record rows then rows else rows ++ header ∷ []

-- a row at the end of rows with a header
abbrev pub appended : List (List ℕ) → List (List ℕ) → List (List (List ℕ)) → List (List (List ℕ))
appended header row rows = headed header rows ++ row ∷ []

-- a row in the place of the first record that passes a test, if there is one
abbrev pub replaced : (Numbered → Bool) → List (List ℕ) → List (List (List ℕ)) → Option (List (List (List ℕ)))
replaced test row rows = option_map (λ k. slice_set rows k row) (place_of test rows)

-- the first record that passes a test taken out, if there is one; the rows behind it move up
abbrev pub dropped : (Numbered → Bool) → List (List (List ℕ)) → Option (List (List (List ℕ)))
dropped test rows = option_map (λ k. remove rows k) (place_of test rows)

-- the row at a place
abbrev pub row_at : List (List (List ℕ)) → ℕ → List (List ℕ)
row_at rows k = slice_index_or rows k []

-- a row with a value in a column, from 1 on
abbrev pub with_field : ℕ → List ℕ → List (List ℕ) → List (List ℕ)
with_field column value row = slice_set row (column - 1) value

-- a value in a column of the first record that passes a test, if there is one
abbrev pub changed : (Numbered → Bool) → ℕ → List ℕ → List (List (List ℕ)) → Option (List (List (List ℕ)))
changed test column value rows = option_map (λ k. slice_set rows k (with_field column value (row_at rows k))) (place_of test rows)

-- files with other stage rows
abbrev pub with_stages : Files → List (List (List ℕ)) → Files
with_stages files rows = record files { stages = rows }

-- files with other table rows
abbrev pub with_tables : Files → List (List (List ℕ)) → Files
with_tables files rows = record files { tables = rows }

-- files with other arc rows
abbrev pub with_arcs : Files → List (List (List ℕ)) → Files
with_arcs files rows = record files { arcs = rows }

-- the files behind an edit, none where what it names has no record
abbrev pub edited : Files → Edit → Option Files
edited files (SetStage name column value) = option_map (with_stages files) (changed (is_name_of name) column value files.stages)
edited files (AddStage row) = Some (with_stages files (appended stage_header row files.stages))
edited files (DropStage name) = option_map (with_stages files) (dropped (is_name_of name) files.stages)
edited files (SetTable row) = option_map (with_tables files) (replaced (is_name_of (field_in row 1)) row files.tables)
edited files (AddTable row) = Some (with_tables files (appended table_header row files.tables))
edited files (DropTable name) = option_map (with_tables files) (dropped (is_name_of name) files.tables)
edited files (SetArc row) = option_map (with_arcs files) (replaced (is_arc_of (field_in row 1) (field_in row 2)) row files.arcs)
edited files (AddArc row) = Some (with_arcs files (appended arc_header row files.arcs))
edited files (DropArc supplier customer) = option_map (with_arcs files) (dropped (is_arc_of supplier customer) files.arcs)

-- the row of the named stage has the column, where there is such a row
abbrev pub HasColumn : Files → Edit → Type 0
HasColumn files (SetStage name column value) = IfSome (place_of (is_name_of name) files.stages) (λ k. column ≤ length (row_at files.stages k))
HasColumn files _ = ⊤

-- what a call gives that makes something, or finds nothing of the name
abbrev pub Gives : {T : Type 0} → Option T → Result T ApplyFault → Type 0
Gives made (Ok value) = made ≡ Some value
Gives made (Err Unknown) = made ≡ None
Gives made (Err NoMemory) = ⊤
