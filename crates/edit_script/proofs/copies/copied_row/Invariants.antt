use Rattle.std.proofs.Common.{◌≡◌, take}
use Rattle.edit_script.proofs.copies.copied_row.Given as goal

abbrev pub invariant-fields : goal.invariant-fields
invariant-fields l = l.row ≡ take l.field-index l.fields
