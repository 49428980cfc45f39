use Rattle.std.proofs.Common.{◌≡◌, take}
use Rattle.csv.specs.Records.{fields_of}
use Rattle.stage_file.proofs.rows.fields_of.Given as goal

abbrev pub invariant-fields : goal.invariant-fields
invariant-fields l = l.fields.items ≡ take l.place (fields_of l.read)
