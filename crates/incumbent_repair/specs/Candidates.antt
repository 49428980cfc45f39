-- The feasible repair of a relaxed plan.
use Rattle.std.specs.Prelude.{◌≡◌, Option, Some, None}
use Rattle.service_model.specs.declared.plan.Plan.{Plan}
use Rattle.service_model.specs.Net.{Net}
use Rattle.service_model.specs.Plans.{Feasible}
use Rattle.service_model.specs.Repairs.{Repair, IsCandidateOf}

-- plan p is the feasible repair, and no other plan is
pub record IsTheCandidate (n : Net) (relaxed : Option Plan) (kind : Repair) (p : Plan) : Type 0 where
  pub candidate : IsCandidateOf n relaxed kind p
  pub only : (q : Plan) → IsCandidateOf n relaxed kind q → q ≡ p

-- the feasible repair, none where there is none
abbrev pub CandidateOf : Net → Option Plan → Repair → Option Plan → Type 0
CandidateOf n relaxed kind None = (p : Plan) → ¬ IsCandidateOf n relaxed kind p
CandidateOf n relaxed kind (Some p) = IsTheCandidate n relaxed kind p

-- the plan where it is feasible
abbrev pub IfFeasible : Net → Plan → Option Plan → Type 0
IfFeasible n p None = ¬ Feasible n p
IfFeasible n p (Some q) = (q ≡ p) × Feasible n p
