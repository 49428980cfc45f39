-- Names in an order, no two of which are equal.
use Rattle.std.specs.Prelude.{◌≢◌, ℕ, List, map, AllPairs}
use Rattle.std.specs.Global.{Vec}
use Rattle.stage_file.specs.Records.{Numbered, field_in}

-- the names of a set's keys
abbrev pub names_of_keys : List (Vec ℕ) → List (List ℕ)
names_of_keys keys = map (λ key. key.items) keys

-- no two names are equal
abbrev pub AreDistinct : List (List ℕ) → Type 0
AreDistinct names = AllPairs (λ a b. a ≢ b) names

-- the first field of a record
abbrev pub name_in : Numbered → List ℕ
name_in r = field_in r.fields 1

-- the first fields of records
abbrev pub names_in : List Numbered → List (List ℕ)
names_in records = map name_in records
