-- The step that a row of a script says.
use Rattle.std.specs.Prelude.{◌≡◌, ℕ, ◌≤◌, List, length, drop, Option, Some, None, Result, Ok, Err, ⊤, if◌then◌else◌}
use Rattle.stage_file.specs.Rows.{without_blank_end}
use Rattle.stage_file.specs.Records.{field_in}
use Rattle.edit_script.specs.declared.edit.Edit.{Edit}
use Rattle.edit_script.specs.declared.edit.Edit.TheVariants as edit
use Rattle.edit_script.specs.declared.edit.Step.{Step}
use Rattle.edit_script.specs.declared.edit.Step.TheVariants.{Solve, Change}
use Rattle.edit_script.specs.declared.edit.EditFault.{EditFault}
use Rattle.edit_script.specs.declared.edit.EditFault.TheVariants.{Word, Count, NoMemory}
use Rattle.edit_script.specs.declared.words.Word.TheVariants as word
use Rattle.edit_script.specs.declared.words.Word as words
use Rattle.edit_script.specs.Words.{word_named, takes, column_named, IsColumn}

-- the fields behind the word
abbrev pub behind_word : List (List ℕ) → List (List ℕ)
behind_word fields = drop 1 fields

-- a column becomes a value, if the word of the column is one
abbrev pub set_stage : List ℕ → Option ℕ → List ℕ → Result Step EditFault
set_stage name None value = Err Word
set_stage name (Some column) value = Ok (Change (edit.SetStage name column value))

-- the step of a word and the fields of its row
abbrev pub step_with : words.Word → List (List ℕ) → Result Step EditFault
step_with word.Solve fields = Ok Solve
step_with word.SetStage fields = set_stage (field_in fields 2) (column_named (field_in fields 3)) (field_in fields 4)
step_with word.AddStage fields = Ok (Change (edit.AddStage (behind_word fields)))
step_with word.DropStage fields = Ok (Change (edit.DropStage (field_in fields 2)))
step_with word.SetTable fields = Ok (Change (edit.SetTable (behind_word fields)))
step_with word.AddTable fields = Ok (Change (edit.AddTable (behind_word fields)))
step_with word.DropTable fields = Ok (Change (edit.DropTable (field_in fields 2)))
step_with word.SetArc fields = Ok (Change (edit.SetArc (behind_word fields)))
step_with word.AddArc fields = Ok (Change (edit.AddArc (behind_word fields)))
step_with word.DropArc fields = Ok (Change (edit.DropArc (field_in fields 2) (field_in fields 3)))

-- the step of a row whose first field is a word or not: the number of fields is tested before the column
abbrev pub step_in : Option words.Word → List (List ℕ) → Result Step EditFault
step_in None fields = Err Word
step_in (Some word) fields = if takes word (length fields) then step_with word fields else Err Count

-- the step of a row, its blank end aside, or why it says none
unfoldable pub step_of : List (List ℕ) → Result Step EditFault
step_of row = let fields = without_blank_end row in step_in (word_named (field_in fields 1)) fields

-- what a reader of rows gives, by the step that the row says
abbrev pub Reads : Result Step EditFault → Result Step EditFault → Type 0
Reads wanted (Ok step) = wanted ≡ Ok step
Reads wanted (Err Word) = wanted ≡ Err Word
Reads wanted (Err Count) = wanted ≡ Err Count
Reads wanted (Err NoMemory) = ⊤

-- an edit can be made: its column is one of a stage's record, and its row has the fields that name the record
abbrev pub IsWhole : Edit → Type 0
IsWhole (edit.SetStage name column value) = IsColumn column
IsWhole (edit.SetTable row) = 1 ≤ length row
IsWhole (edit.SetArc row) = 2 ≤ length row
IsWhole _ = ⊤

-- so can the edit of a step
abbrev pub IsWholeStep : Step → Type 0
IsWholeStep Solve = ⊤
IsWholeStep (Change e) = IsWhole e
