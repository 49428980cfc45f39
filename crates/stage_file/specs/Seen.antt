-- Records as the code holds them.
use Rattle.std.specs.Prelude.{ℕ, ◌-◌, ◌<◌, ◌^◌, List, length, map, All}
use Rattle.stage_file.specs.Records.{Numbered}
use Rattle.stage_file.specs.declared.record.Record.{Record}

-- the record of a number and its fields
abbrev pub record_of : ℕ → List (List ℕ) → Numbered
record_of number fields = record { number = number; fields = fields }

-- a record as contracts see it
abbrev pub seen_as : Record → Numbered
seen_as r = record_of r.number r.fields.now

-- records as contracts see them
abbrev pub all_seen : List Record → List Numbered
all_seen records = map seen_as records

-- the columns of each record can be numbered
abbrev pub AreShort : List Record → Type 0
AreShort records = All (λ r. length r.fields.now < 2 ^ 32) records
