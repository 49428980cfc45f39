-- What is printed for the verdict of a search.
use Rattle.std.specs.Prelude.{ℕ, List, [], ◌∷◌, ◌++◌, codes, decimal, Option, Some, None}
use Rattle.service_model.specs.declared.plan.Plan.{Plan}
use Rattle.service_model.specs.declared.cert.Verdict.{Verdict}
use Rattle.network_check.specs.declared.checked.Checked.{Checked}
use Rattle.stock_report.specs.Reports.{report_header, report_rows}
use Rattle.stock_report.specs.Outcomes.{outcome_row}

-- the report on a plan, where there is one
abbrev pub plan_report : Checked → Option Plan → List (List (List ℕ))
plan_report c None = []
plan_report c (Some p) = report_header ∷ report_rows c p

-- how many ranges were relaxed
abbrev pub ranges_row : ℕ → List (List ℕ)
ranges_row ranges = codes "ranges" ∷ decimal ranges ∷ []

-- how many tables were filled
abbrev pub filled_row : ℕ → List (List ℕ)
filled_row filled = codes "filled" ∷ decimal filled ∷ []

-- what is printed for a verdict, with the number of ranges and that of tables
abbrev pub solution_rows : Checked → Verdict → ℕ → ℕ → List (List (List ℕ))
solution_rows c v ranges filled =
    outcome_row c.network v ∷ (plan_report c v.plan ++ ranges_row ranges ∷ filled_row filled ∷ [])
