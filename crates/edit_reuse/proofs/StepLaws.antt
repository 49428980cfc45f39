-- The edit of a row that can be numbered has a row that can be.
use Rattle.std.proofs.Common.{◌≡◌, ℕ, ◌-◌, ◌<◌, ◌≤◌, ◌^◌, Bool, true, false, cond, List, length, Option, Some, None, Result, Ok, Err, subst, arith}
use Rattle.std.specs.List.{suffix_len}
use Rattle.std.proofs.lemmas.List.{length-drop, length-take}
use Rattle.stage_file.specs.Rows.{is_blank, without_blank_end}
use Rattle.stage_file.specs.Records.{field_in}
use Rattle.edit_script.specs.declared.edit.Edit.{Edit}
use Rattle.edit_script.specs.declared.edit.Edit.TheVariants as edit
use Rattle.edit_script.specs.declared.edit.Step.{Step}
use Rattle.edit_script.specs.declared.edit.Step.TheVariants.{Change}
use Rattle.edit_script.specs.declared.edit.EditFault.{EditFault}
use Rattle.edit_script.specs.declared.edit.EditFault.TheVariants.{Count}
use Rattle.edit_script.specs.declared.words.Word as words
use Rattle.edit_script.specs.declared.words.Word.TheVariants as word
use Rattle.edit_script.specs.Words.{word_named, takes, column_named}
use Rattle.edit_script.specs.Steps.{behind_word, set_stage, step_with, step_in, step_of}
use Rattle.edit_reuse.specs.Edits.{IsShort}

-- the edit is short where it is the one of a result
same_short : (made e : Edit) → ◌≡◌ {A = Result Step EditFault} (Ok (Change made)) (Ok (Change e)) → IsShort made → IsShort e
same_short made e is short = let same : made ≡ e = cc in subst IsShort same short

set_short : (name value : List ℕ) (column : Option ℕ) (e : Edit) → set_stage name column value ≡ Ok (Change e) → IsShort e
set_short name value None e is = cc
set_short name value (Some column) e is = same_short (edit.SetStage name column value) e is tt

short_with : (w : words.Word) (fields : List (List ℕ)) (e : Edit) → step_with w fields ≡ Ok (Change e) → length fields < 2 ^ 32 → IsShort e
short_with word.Solve fields e is short = cc
short_with word.SetStage fields e is short = set_short (field_in fields 2) (field_in fields 4) (column_named (field_in fields 3)) e is
short_with word.AddStage fields e is short = same_short (edit.AddStage (behind_word fields)) e is (omega (arith, length-drop 1 fields))
short_with word.DropStage fields e is short = same_short (edit.DropStage (field_in fields 2)) e is tt
short_with word.SetTable fields e is short = same_short (edit.SetTable (behind_word fields)) e is (omega (arith, length-drop 1 fields))
short_with word.AddTable fields e is short = same_short (edit.AddTable (behind_word fields)) e is (omega (arith, length-drop 1 fields))
short_with word.DropTable fields e is short = same_short (edit.DropTable (field_in fields 2)) e is tt
short_with word.SetArc fields e is short = same_short (edit.SetArc (behind_word fields)) e is (omega (arith, length-drop 1 fields))
short_with word.AddArc fields e is short = same_short (edit.AddArc (behind_word fields)) e is (omega (arith, length-drop 1 fields))
short_with word.DropArc fields e is short = same_short (edit.DropArc (field_in fields 2) (field_in fields 3)) e is tt

short_if : (takes : Bool) (w : words.Word) (fields : List (List ℕ)) (e : Edit) → cond takes (step_with w fields) (Err Count) ≡ Ok (Change e) → length fields < 2 ^ 32 → IsShort e
short_if true w fields e is short = short_with w fields e is short
short_if false w fields e is short = cc

short_in : (w : Option words.Word) (fields : List (List ℕ)) (e : Edit) → step_in w fields ≡ Ok (Change e) → length fields < 2 ^ 32 → IsShort e
short_in None fields e is short = cc
short_in (Some w) fields e is short = short_if (takes w (length fields)) w fields e is short

-- a row without its blank end is no longer
pub cut_le : (row : List (List ℕ)) → length (without_blank_end row) ≤ length row
unfolding without_blank_end
cut_le row = omega (arith, length-take (length row - suffix_len is_blank row) row)

-- the edit of a row of a script has a row that can be numbered, where the row can be
pub step_short : (row : List (List ℕ)) (e : Edit) → step_of row ≡ Ok (Change e) → length row < 2 ^ 32 → IsShort e
unfolding step_of
step_short row e is short =
    let fields = without_blank_end row in
    short_in (word_named (field_in fields 1)) fields e is (omega (arith, cut_le row))
