-- What is printed for a plan that is audited.
use Rattle.std.specs.Prelude.{ℕ, ◌==◌, List, [], ◌∷◌, ◌++◌, codes, decimal, Option, Some, None, if◌then◌else◌}
use Rattle.service_model.specs.declared.plan.Plan.{Plan}
use Rattle.service_model.specs.declared.breaks.Break.{Break}
use Rattle.service_model.specs.declared.breaks.TheConstants.{NOT_WAITED}
use Rattle.service_model.specs.Net.{arc_in}
use Rattle.service_model.specs.Plans.{cost_of}
use Rattle.service_model.specs.Breaks.{first_break_of}
use Rattle.network_check.specs.declared.checked.Checked.{Checked}
use Rattle.network_check.specs.Checked.{name_at}
use Rattle.stock_report.specs.Reports.{report_header, report_rows}

-- what is printed for a feasible plan
abbrev pub audit_rows : Checked → Plan → List (List (List ℕ))
audit_rows c p = (codes "feasible" ∷ decimal (cost_of c.network p) ∷ []) ∷ report_header ∷ report_rows c p

-- where a rule is broken: on an arc by the names of its supplier and its customer, else by that of the stage
abbrev pub broken_names : Checked → Break → List (List ℕ)
broken_names c broken =
    if broken.rule == NOT_WAITED
    then name_at c (arc_in c.network.arcs broken.place).supplier ∷ name_at c (arc_in c.network.arcs broken.place).customer ∷ []
    else name_at c broken.place ∷ []

-- the rule that a plan breaks, and where
abbrev pub broken_row : Checked → Break → List (List ℕ)
broken_row c broken = codes "broken" ∷ (codes "B" ++ decimal broken.rule) ∷ broken_names c broken

-- what is printed for a plan by the first rule that it breaks, if it breaks one
abbrev pub audited_by : Checked → Plan → Option Break → List (List (List ℕ))
audited_by c p None = audit_rows c p
audited_by c p (Some broken) = broken_row c broken ∷ []

-- what is printed for a plan: that it is feasible, or the first rule that it breaks
abbrev pub audited_rows : Checked → Plan → List (List (List ℕ))
audited_rows c p = audited_by c p (first_break_of c.network p)
