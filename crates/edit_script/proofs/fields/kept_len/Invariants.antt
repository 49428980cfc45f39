use Rattle.std.proofs.Common.{◌≡◌, ◌+◌, ◌≤◌, length, take}
use Rattle.std.specs.List.{suffix_len}
use Rattle.stage_file.specs.Rows.{is_blank}
use Rattle.edit_script.proofs.fields.kept_len.Given as goal

abbrev pub invariant-fields : goal.invariant-fields
invariant-fields l = record {
  within : l.kept ≤ length l.row;
  same : l.kept + suffix_len is_blank l.row ≡ length l.row + suffix_len is_blank (take l.kept l.row);
}

abbrev pub decreases-fields : goal.decreases-fields
decreases-fields l = l.kept
