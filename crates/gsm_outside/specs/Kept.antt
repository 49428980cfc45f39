-- Files in a list, as a map from names to bytes.
use Rattle.std.specs.Prelude.{ℕ, Bool, List, map}
use Rattle.std.specs.Ordering.{nat_cmp, eq_by_cmp}
use Rattle.std.specs.Cmp.Lexicographic.{slice_cmp}
use Rattle.std.specs.FinMap as finite
use Rattle.gsm_outside.specs.Held.{Held}
use Rattle.gsm_outside.specs.declared.kept.File.{File}

-- a file is kept under its name
abbrev pub entry_of : File → List ℕ × List ℕ
entry_of file = (file.name, file.bytes)

-- what a list of files holds: of two files with one name, the first
unfoldable pub held_by : List File → Held
held_by files = finite.from_entries (map entry_of files)

-- the file has this name
unfoldable pub is_named : List ℕ → File → Bool
is_named name file = eq_by_cmp (slice_cmp nat_cmp) name file.name
