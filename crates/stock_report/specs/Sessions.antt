-- What is printed in a session: a row for each record of its script, by the record's number, and one at the end.
use Rattle.std.specs.Prelude.{ℕ, List, [], ◌∷◌, ◌++◌, codes, decimal}
use Rattle.service_model.specs.declared.cert.Verdict.{Verdict}
use Rattle.service_model.specs.Net.{Net}
use Rattle.stage_file.specs.declared.fault.FileFault.{FileFault}
use Rattle.stock_report.specs.Outcomes.{outcome_row}
use Rattle.stock_report.specs.Refusals.{file_fault_fields}

-- an edit that was made
abbrev pub edit_done_row : ℕ → List (List ℕ)
edit_done_row place = codes "edit" ∷ decimal place ∷ codes "done" ∷ []

-- a record on which a rule on edits fails
abbrev pub edit_fault_row : ℕ → ℕ → List (List ℕ)
edit_fault_row place rule = codes "edit" ∷ decimal place ∷ (codes "E" ++ decimal rule) ∷ []

-- an edit that was not made, since a rule on files fails on the edited files
abbrev pub edit_refused_row : ℕ → FileFault → List (List ℕ)
edit_refused_row place fault = codes "edit" ∷ decimal place ∷ file_fault_fields fault

-- an answer: its verdict, the number of its ranges and that of the tables that were filled for it
abbrev pub session_answer_row : ℕ → Net → Verdict → ℕ → ℕ → List (List ℕ)
session_answer_row place n v ranges filled = codes "solve" ∷ decimal place ∷ (outcome_row n v ++ decimal ranges ∷ decimal filled ∷ [])

-- the end of a session, with the number of rows before it
abbrev pub session_end_row : ℕ → List (List ℕ)
session_end_row rows = codes "end" ∷ decimal rows ∷ []
