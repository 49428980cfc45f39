-- What is told of a verdict, and of a certificate that is checked.
use Rattle.std.specs.Prelude.{ℕ, List, [], ◌∷◌, ◌++◌, codes, decimal, Option, Some, None}
use Rattle.service_model.specs.declared.plan.Plan.{Plan}
use Rattle.service_model.specs.declared.cert.Outcome.{Outcome}
use Rattle.service_model.specs.declared.cert.Outcome.TheVariants.{Optimal, Infeasible, Spent}
use Rattle.service_model.specs.declared.cert.Verdict.{Verdict}
use Rattle.service_model.specs.Net.{Net}
use Rattle.service_model.specs.Plans.{cost_of}

-- the cost of a plan, and a dash where there is none
abbrev pub cost_text : Net → Option Plan → List ℕ
cost_text n None = codes "-"
cost_text n (Some p) = decimal (cost_of n p)

-- how a search ended: what the plan found costs, and where the budget was spent the bound before it
abbrev pub outcome_as : Outcome → Net → ℕ → Option Plan → List (List ℕ)
outcome_as Optimal n bound plan = codes "optimal" ∷ cost_text n plan ∷ []
outcome_as Infeasible n bound plan = codes "infeasible" ∷ []
outcome_as Spent n bound plan = codes "spent" ∷ decimal bound ∷ cost_text n plan ∷ []

-- the outcome of a verdict, with its numbers
abbrev pub outcome_row : Net → Verdict → List (List ℕ)
outcome_row n v = outcome_as v.outcome n v.bound v.plan

-- what is printed for a certificate that is accepted with a verdict
abbrev pub valid_row : Net → Verdict → List (List ℕ)
valid_row n v = codes "valid" ∷ outcome_row n v

-- the rule that fails on a certificate, and the line on which it does
abbrev pub not_accepted_row : ℕ → ℕ → List (List ℕ)
not_accepted_row line rule = codes "not accepted" ∷ decimal line ∷ (codes "K" ++ decimal rule) ∷ []
