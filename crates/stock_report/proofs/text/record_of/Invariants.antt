use Rattle.std.proofs.Common.{◌≡◌, take, []}
use Rattle.csv.specs.Records.{fields_of, partial_of}
use Rattle.stock_report.proofs.text.record_of.Given as goal

abbrev pub invariant-fields : goal.invariant-fields
invariant-fields l = record {
  fields : fields_of l.record ≡ take l.field-index l.row;
  partial : partial_of l.record ≡ [];
}
