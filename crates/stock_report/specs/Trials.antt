-- What is printed of a trial: a network that was made from a number and solved.
use Rattle.std.specs.Prelude.{ℕ, List, [], ◌∷◌, length, codes, decimal}
use Rattle.service_model.specs.declared.cert.Verdict.{Verdict}
use Rattle.service_model.specs.Net.{Net}
use Rattle.stock_report.specs.Outcomes.{outcome_row}
use Rattle.stock_report.specs.Answers.{ranges_row, filled_row}

-- the number that the network was made from, and how many stages and arcs it has
abbrev pub trial_row : ℕ → Net → List (List ℕ)
trial_row seed n = codes "trial" ∷ decimal seed ∷ decimal (length n.stages) ∷ decimal (length n.arcs) ∷ []

-- that the certificate of the answer passes every rule
abbrev pub passed_row : List (List ℕ)
passed_row = codes "check" ∷ codes "valid" ∷ []

-- what is printed of a trial: its network, the outcome, the numbers of ranges and of tables, and that its certificate is accepted
abbrev pub trial_rows : ℕ → Net → Verdict → ℕ → ℕ → List (List (List ℕ))
trial_rows seed n v ranges filled =
    trial_row seed n ∷ outcome_row n v ∷ ranges_row ranges ∷ filled_row filled ∷ passed_row ∷ []
