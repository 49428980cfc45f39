-- What reading a file by fetches gives.
use Rattle.std.specs.Prelude.{◌≡◌, ◌<◌, ◌≤◌, ℕ, List, length, take, Option, Result, Ok, Err, IfSome}
use Rattle.gsm_outside.specs.Held.{Held, file_bytes}
use Rattle.gsm_outside.specs.Causes.{Rose}
use Rattle.request_files.specs.declared.unread.ReadStop.{ReadStop}
use Rattle.request_files.specs.declared.unread.ReadStop.TheVariants.{Fault, TooLong, NoMemory}

-- the bytes are the front of a file
abbrev pub IsFront : List ℕ → List ℕ → Type 0
IsFront file bytes = bytes ≡ take (length bytes) file

-- a fact of a file's bytes, where the shelf tells
abbrev pub WhereTold : Option Held → List ℕ → (List ℕ → Type 0) → Type 0
WhereTold held name P = IfSome held (λ m. P (file_bytes m name))

-- what a read up to a limit gives, with the count of failed reads before and after it
abbrev pub ReadCase : ℕ → Option Held → List ℕ → ℕ → ℕ → Result (List ℕ) ReadStop → Type 0
ReadCase limit held name before now (Ok bytes) = (now ≡ before) × (length bytes ≤ limit) × WhereTold held name (λ file. bytes ≡ file)
ReadCase limit held name before now (Err TooLong) = (now ≡ before) × WhereTold held name (λ file. limit < length file)
ReadCase limit held name before now (Err Fault) = (before ≤ now) × Rose before now
ReadCase limit held name before now (Err NoMemory) = before ≤ now
