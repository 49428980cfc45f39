-- Rules that fail, with their places, and what a reader gives.
use Rattle.std.specs.Prelude.{◌≡◌, ℕ, ◌+◌, Bool, not, List, [], ◌∷◌, Option, Some, None, Result, Ok, Err, ⊤, position, option_map, if◌then◌else◌}
use Rattle.std.specs.Str.{bytes_eq, str_to_ascii_lowercase}
use Rattle.service_model.specs.Search.{first_of}
use Rattle.stage_file.specs.declared.fault.FileFault.{FileFault}
use Rattle.stage_file.specs.declared.fault.FileKind.{FileKind}
use Rattle.stage_file.specs.declared.fault.ReadFault.{ReadFault}
use Rattle.stage_file.specs.declared.fault.ReadFault.TheVariants.{Fault, NoMemory}
use Rattle.stage_file.specs.declared.rules.TheConstants.{NOT_TEXT, HEADER}
use Rattle.stage_file.specs.Records.{Numbered, field_in}
use Rattle.stage_file.specs.Fields.{is_no_text}

-- a rule at a record and a column
abbrev pub fault_of : FileKind → ℕ → ℕ → ℕ → FileFault
fault_of file row rule column = record { file = file; row = row; rule = rule; column = column }

-- a rule at a record and a column, where it fails
unfoldable pub fails_if : FileKind → ℕ → ℕ → ℕ → Bool → Option FileFault
fails_if file row rule column fails = if fails then Some (fault_of file row rule column) else None

-- a rule at the first of these fields where it fails; the first stands in a column
unfoldable pub fails_from : FileKind → ℕ → ℕ → ℕ → (List ℕ → Bool) → List (List ℕ) → Option FileFault
fails_from file row rule column fails fields = option_map (λ k. fault_of file row rule (column + k)) (position fails fields)

-- each field is text
abbrev pub text_rule : FileKind → Numbered → Option FileFault
text_rule file r = fails_from file r.number NOT_TEXT 1 is_no_text r.fields

-- the rules on a header, whose word is in lower case
abbrev pub header_rules : FileKind → List ℕ → Numbered → List (Option FileFault)
header_rules file word r =
    text_rule file r
    ∷ fails_if file r.number HEADER 1 (not (bytes_eq (str_to_ascii_lowercase (field_in r.fields 1)) word))
    ∷ []

-- the first rule that fails on the header, where there is one
abbrev pub header_fault : FileKind → List ℕ → List Numbered → Option FileFault
header_fault file word [] = None
header_fault file word (r ∷ records) = first_of (header_rules file word r)

-- what a reader gives, by the first rule that fails and by what is read where none does
abbrev pub Reads : {T : Type 0} → Option FileFault → T → Result T ReadFault → Type 0
Reads fault value (Ok read) = (fault ≡ None) × (read ≡ value)
Reads fault value (Err (Fault f)) = fault ≡ Some f
Reads fault value (Err NoMemory) = ⊤
