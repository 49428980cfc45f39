-- What is printed where there is no answer.
use Rattle.std.specs.Prelude.{ℕ, List, [], ◌∷◌, ◌++◌, codes, decimal}
use Rattle.stage_file.specs.declared.fault.FileFault.{FileFault}
use Rattle.stage_file.specs.declared.fault.FileKind.{FileKind}
use Rattle.stage_file.specs.declared.fault.FileKind.TheVariants as kind
use Rattle.command_words.specs.declared.word_fault.WordFault.{WordFault}
use Rattle.command_words.specs.declared.file_word.FileWord.{FileWord}
use Rattle.command_words.specs.declared.file_word.FileWord.TheVariants as file

-- the word for a file
abbrev pub file_text : FileWord → List ℕ
file_text file.Stages = codes "stages"
file_text file.Tables = codes "tables"
file_text file.Arcs = codes "arcs"
file_text file.Script = codes "script"
file_text file.Plan = codes "plan"
file_text file.Cert = codes "cert"

-- the word for a file on which a rule fails
abbrev pub kind_text : FileKind → List ℕ
kind_text kind.Stages = codes "stages"
kind_text kind.Tables = codes "tables"
kind_text kind.Arcs = codes "arcs"
kind_text kind.Plan = codes "plan"
kind_text kind.Words = codes "words"

-- the rule on words that fails, and its place
abbrev pub word_row : WordFault → List (List ℕ)
word_row fault = codes "words" ∷ (codes "W" ++ decimal fault.rule) ∷ decimal fault.place ∷ []

-- a file is longer than its limit
abbrev pub too_long_row : FileWord → List (List ℕ)
too_long_row word = codes "too long" ∷ file_text word ∷ []

-- a rule on files that fails, and its place: the file, the record and the column
abbrev pub file_fault_fields : FileFault → List (List ℕ)
file_fault_fields fault = (codes "F" ++ decimal fault.rule) ∷ kind_text fault.file ∷ decimal fault.row ∷ decimal fault.column ∷ []

-- what is printed where a rule on files fails
abbrev pub refused_row : FileFault → List (List ℕ)
refused_row fault = codes "refused" ∷ file_fault_fields fault

-- what is printed where a file could not be read
abbrev pub fault_row : FileWord → List (List ℕ)
fault_row word = codes "read fault" ∷ file_text word ∷ []

-- what is printed where the certificate could not be written
abbrev pub write_fault_row : List (List ℕ)
write_fault_row = codes "write fault" ∷ codes "cert" ∷ []
