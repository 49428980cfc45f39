-- The words of a script, and how many fields each takes.
use Rattle.std.specs.Prelude.{ℕ, ◌≤◌, ◌==◌, ◌||◌, nat_le, Bool, List, [], ◌∷◌, Option, Some, None, codes, find, if◌then◌else◌}
use Rattle.std.specs.Str.{bytes_eq}
use Rattle.edit_script.specs.declared.words.Word.{Word}
use Rattle.edit_script.specs.declared.words.Word.TheVariants.{Solve, SetStage, AddStage, DropStage, SetTable, AddTable, DropTable, SetArc, AddArc, DropArc}

-- the words of a script
abbrev pub words : List Word
words =
    Solve ∷ SetStage ∷ AddStage ∷ DropStage ∷ SetTable ∷ AddTable ∷ DropTable ∷ SetArc ∷ AddArc ∷ DropArc ∷ []

-- a word as it is written
abbrev pub word_text : Word → List ℕ
word_text Solve = codes "solve"
word_text SetStage = codes "set-stage"
word_text AddStage = codes "add-stage"
word_text DropStage = codes "drop-stage"
word_text SetTable = codes "set-table"
word_text AddTable = codes "add-table"
word_text DropTable = codes "drop-table"
word_text SetArc = codes "set-arc"
word_text AddArc = codes "add-arc"
word_text DropArc = codes "drop-arc"

-- the word that a field is, if it is one
unfoldable pub word_named : List ℕ → Option Word
word_named field = find (λ word. bytes_eq field (word_text word)) words

-- the word takes so many fields, itself among them; the blank value of a stage's column is dropped with the blank end of its row
abbrev pub takes : Word → ℕ → Bool
takes Solve count = count == 1
takes SetStage count = (count == 3) || (count == 4)
takes AddStage count = count == 8
takes DropStage count = count == 2
takes SetTable count = nat_le 3 count
takes AddTable count = nat_le 3 count
takes DropTable count = count == 2
takes SetArc count = count == 4
takes AddArc count = (count == 3) || (count == 4)
takes DropArc count = count == 3

-- the column of a stage's record that a word names, if it is one of the six
unfoldable pub column_named : List ℕ → Option ℕ
column_named word =
    if bytes_eq word (codes "lead") then Some 2
    else if bytes_eq word (codes "supply") then Some 3
    else if bytes_eq word (codes "least") then Some 4
    else if bytes_eq word (codes "most") then Some 5
    else if bytes_eq word (codes "bound") then Some 6
    else if bytes_eq word (codes "unit") then Some 7
    else None

-- a column of a stage's record behind the name
abbrev pub IsColumn : ℕ → Type 0
IsColumn column = (2 ≤ column) × (column ≤ 7)
