use Rattle.std.proofs.Common.{◌≡◌, false, map, take, All}
use Rattle.stage_file.specs.declared.limits.TheConstants.{MAX_EXCESS}
use Rattle.stage_file.specs.Fields.{is_no_number, is_past, number_or}
use Rattle.stage_file.proofs.tables.entries_of.Given as goal

abbrev pub invariant-fields : goal.invariant-fields
invariant-fields l = record {
  entries : l.entries ≡ map (number_or 0 MAX_EXCESS) (take l.k l.fields);
  numbers : All (λ f. is_no_number MAX_EXCESS f ≡ false) (take l.k l.fields);
  within : All (λ f. is_past MAX_EXCESS f ≡ false) (take l.k l.fields);
}
