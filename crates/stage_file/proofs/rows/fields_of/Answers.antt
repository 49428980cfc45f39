use Rattle.std.proofs.Common.{[], length, ◌<◌, rules, refl, sym}
use Rattle.std.proofs.lemmas.List.{take_more}
use Rattle.csv.specs.Records.{fields_of}
use Rattle.stage_file.proofs.RowFacts.{field_read}
use Rattle.stage_file.proofs.rows.fields_of.Goals as goal

pub fields-preserved : goal.fields-preserved
fields-preserved c =
    let fs = fields_of c.args.read.now in
    let within : c.fields.place < length fs = search rules in
    let read = field_read fs c.fields.place c.in-Some.field.now [] (sym c.in-Some.ensures.value) within in
    rw (c.in_ok-push.ensures.items, c.in_ok-copied.ensures, c.fields.invariant, take_more fs c.fields.place [] within, read) refl
