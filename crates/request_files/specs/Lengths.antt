-- How long the files of a request may be.
use Rattle.std.specs.Prelude.{◌≤◌, ℕ, nat_lt, List, [], ◌∷◌, length, Option, Some, None, if◌then◌else◌, ⊤}
use Rattle.service_model.specs.Search.{first_of}
use Rattle.gsm_outside.specs.Held.{Held, file_bytes}
use Rattle.command_words.specs.declared.command.Command.{Command}
use Rattle.command_words.specs.declared.file_word.FileWord.{FileWord}
use Rattle.command_words.specs.declared.file_word.FileWord.TheVariants as file
use Rattle.command_words.specs.Commands.{further_file}
use Rattle.command_words.specs.Asked.{Asked}
use Rattle.request_files.specs.declared.files.TheConstants.{FILE_LIMIT, CERT_LIMIT}
use Rattle.request_files.specs.declared.contents.Contents.{Contents}

-- the most bytes of a file
abbrev pub limit_of : FileWord → ℕ
limit_of file.Stages = FILE_LIMIT
limit_of file.Tables = FILE_LIMIT
limit_of file.Arcs = FILE_LIMIT
limit_of file.Script = FILE_LIMIT
limit_of file.Plan = FILE_LIMIT
limit_of file.Cert = CERT_LIMIT

-- the file, where it is longer than its limit
abbrev pub long_if : FileWord → List ℕ → Option FileWord
long_if word bytes = if nat_lt (limit_of word) (length bytes) then Some word else None

-- the further file of a command, where it has one that is longer than its limit
abbrev pub further_long : Option FileWord → List ℕ → Option FileWord
further_long None bytes = None
further_long (Some word) bytes = long_if word bytes

-- the first file of a request that is longer than its limit
abbrev pub too_long_of : Asked → Held → Option FileWord
too_long_of q held =
    first_of (
    long_if file.Stages (file_bytes held q.stages)
    ∷ long_if file.Tables (file_bytes held q.tables)
    ∷ long_if file.Arcs (file_bytes held q.arcs)
    ∷ further_long (further_file q.command) (file_bytes held q.further)
    ∷ []
    )

-- the first of the three files of a network that is longer than its limit
abbrev pub longer_in_network : Asked → Held → Option FileWord
longer_in_network q held =
    first_of (
    long_if file.Stages (file_bytes held q.stages)
    ∷ long_if file.Tables (file_bytes held q.tables)
    ∷ long_if file.Arcs (file_bytes held q.arcs)
    ∷ []
    )

-- the first file longer than its limit that a request reads before this one
abbrev pub longer_before : Asked → Held → FileWord → Option FileWord
longer_before q held file.Stages = None
longer_before q held file.Tables = long_if file.Stages (file_bytes held q.stages)
longer_before q held file.Arcs = first_of (long_if file.Stages (file_bytes held q.stages) ∷ long_if file.Tables (file_bytes held q.tables) ∷ [])
longer_before q held file.Script = longer_in_network q held
longer_before q held file.Plan = longer_in_network q held
longer_before q held file.Cert = longer_in_network q held

-- a further file is not longer than its limit
abbrev pub IsWithin : Option FileWord → List ℕ → Type 0
IsWithin None bytes = ⊤
IsWithin (Some word) bytes = length bytes ≤ limit_of word

-- no file that a command reads is longer than its limit
pub record AreShort (command : Command) (c : Contents) : Type 0 where
  pub stages : length c.stages ≤ FILE_LIMIT
  pub tables : length c.tables ≤ FILE_LIMIT
  pub arcs : length c.arcs ≤ FILE_LIMIT
  pub further : IsWithin (further_file command) c.further
