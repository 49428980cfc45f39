-- The bytes of the files of a request, or the file that was not read.
use Rattle.std.specs.Prelude.{◌≡◌, ◌≤◌, ℕ, List, [], Option, Some, None, Result, Ok, Err, IfSome, ⊤}
use Rattle.gsm_outside.specs.Held.{Held, file_bytes}
use Rattle.gsm_outside.specs.Causes.{Rose}
use Rattle.command_words.specs.declared.command.Command.{Command}
use Rattle.command_words.specs.declared.file_word.FileWord.{FileWord}
use Rattle.command_words.specs.declared.file_word.FileWord.TheVariants as file
use Rattle.command_words.specs.Commands.{further_file}
use Rattle.command_words.specs.Asked.{Asked}
use Rattle.request_files.specs.declared.contents.Contents.{Contents}
use Rattle.request_files.specs.declared.unread.ReadStop.{ReadStop}
use Rattle.request_files.specs.declared.unread.ReadStop.TheVariants as read
use Rattle.request_files.specs.declared.unread.Unread.{Unread}
use Rattle.request_files.specs.declared.unread.Unread.TheVariants as unread
use Rattle.request_files.specs.Lengths.{further_long, too_long_of, longer_before, IsWithin, AreShort}

-- the bytes of a further file, none where there is none
abbrev pub further_bytes : Option FileWord → List ℕ → List ℕ
further_bytes None bytes = []
further_bytes (Some word) bytes = bytes

-- the bytes of the files of a request
abbrev pub contents_of : Asked → Held → Contents
contents_of q held = record {
  stages = file_bytes held q.stages;
  tables = file_bytes held q.tables;
  arcs = file_bytes held q.arcs;
  further = further_bytes (further_file q.command) (file_bytes held q.further);
}

-- the file is one of a network, or the command's further file
abbrev pub IsFileOf : Command → FileWord → Type 0
IsFileOf command file.Script = further_file command ≡ Some file.Script
IsFileOf command file.Plan = further_file command ≡ Some file.Plan
IsFileOf command file.Cert = further_file command ≡ Some file.Cert
IsFileOf command _ = ⊤

-- a file of the request that could be the one that was not read: where the shelf tells, none that is read before it is longer than its
-- limit
abbrev pub IsUnread : Asked → Option Held → FileWord → Type 0
IsUnread q held word = IsFileOf q.command word × IfSome held (λ m. longer_before q m word ≡ None)

-- why the files of a request were not read, where one of them was not
abbrev pub unread_of : FileWord → ReadStop → Unread
unread_of word read.Fault = unread.Fault word
unread_of word read.TooLong = unread.TooLong word
unread_of word read.NoMemory = unread.NoMemory

-- what reading a further file gives, with the count of failed reads before and after it
abbrev pub FurtherCase : Option FileWord → Option Held → List ℕ → ℕ → ℕ → Result (List ℕ) Unread → Type 0
FurtherCase word held name before now (Ok bytes) =
    (now ≡ before) × IsWithin word bytes
    × IfSome held (λ m. (further_long word (file_bytes m name) ≡ None) × (bytes ≡ further_bytes word (file_bytes m name)))
FurtherCase word held name before now (Err (unread.TooLong long)) =
    (now ≡ before) × (word ≡ Some long) × IfSome held (λ m. further_long word (file_bytes m name) ≡ Some long)
FurtherCase word held name before now (Err (unread.Fault failed)) = (before ≤ now) × Rose before now × (word ≡ Some failed)
FurtherCase word held name before now (Err unread.NoMemory) = before ≤ now

-- what reading the files of a request gives, with the count of failed reads before and after it
abbrev pub FilesCase : Asked → Option Held → ℕ → ℕ → Result Contents Unread → Type 0
FilesCase q held before now (Ok c) = (now ≡ before) × AreShort q.command c × IfSome held (λ m. (too_long_of q m ≡ None) × (c ≡ contents_of q m))
FilesCase q held before now (Err (unread.TooLong word)) = (now ≡ before) × IsFileOf q.command word × IfSome held (λ m. too_long_of q m ≡ Some word)
FilesCase q held before now (Err (unread.Fault word)) = (before ≤ now) × Rose before now × IsUnread q held word
FilesCase q held before now (Err unread.NoMemory) = before ≤ now
