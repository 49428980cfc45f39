-- Rules that hold.
use Rattle.std.proofs.Common.{◌≡◌, ℕ, ◌+◌, Bool, true, false, not, List, [], ◌∷◌, All, Option, Some, None, refl, ap}
use Rattle.std.specs.Option.{option_map}
use Rattle.std.specs.Str.{bytes_eq, str_to_ascii_lowercase}
use Rattle.service_model.specs.Search.{first_of}
use Rattle.service_model.proofs.SearchFacts.{AllNone}
use Rattle.stage_file.specs.declared.fault.FileKind.{FileKind}
use Rattle.stage_file.specs.declared.rules.TheConstants.{NOT_TEXT, HEADER}
use Rattle.stage_file.specs.Faults.{fault_of, fails_if, fails_from, text_rule, header_rules}
use Rattle.stage_file.specs.Fields.{is_no_text}
use Rattle.stage_file.specs.Records.{field_in}
use Rattle.stage_file.specs.Seen.{record_of}
use Rattle.stage_file.proofs.ListFacts.{no_place}

-- no rule fails where each holds
pub first_none : {A : Type 0} (xs : List (Option A)) → AllNone xs → first_of xs ≡ None
first_none [] each = refl
first_none (None ∷ xs) each = first_none xs each.1
first_none (Some x ∷ xs) each = cc each.0

pub holds : (file : FileKind) (row rule column : ℕ) (fails : Bool) → fails ≡ false → fails_if file row rule column fails ≡ None
unfolding fails_if
holds file row rule column false is = refl
holds file row rule column true is = cc

-- fields are text
pub text_holds : (file : FileKind) (number : ℕ) (fields : List (List ℕ)) → All (λ field. is_no_text field ≡ false) fields → text_rule file (record { number = number; fields = fields }) ≡ None
unfolding fails_from
text_holds file number fields each = ap (option_map (λ k. fault_of file number NOT_TEXT (1 + k))) (no_place is_no_text fields [] each)

-- a header's rules
pub header_holds : (file : FileKind) (word : List ℕ) (number : ℕ) (fields : List (List ℕ)) → All (λ field. is_no_text field ≡ false) fields
    → bytes_eq (str_to_ascii_lowercase (field_in fields 1)) word ≡ true → first_of (header_rules file word (record_of number fields)) ≡ None
header_holds file word number fields text same =
    let test = bytes_eq (str_to_ascii_lowercase (field_in fields 1)) word in
    first_none (header_rules file word (record_of number fields)) (text_holds file number fields text, (holds file number HEADER 1 (not test) (ap not same), tt))
