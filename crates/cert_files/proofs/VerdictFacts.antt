-- The plan of a true verdict.
use Rattle.std.proofs.Common.{ℕ, Option, Some, None, refl}
use Rattle.std.specs.Prelude.{IfSome}
use Rattle.service_model.specs.declared.plan.Plan.{Plan}
use Rattle.service_model.specs.declared.cert.Outcome.{Outcome}
use Rattle.service_model.specs.declared.cert.Outcome.TheVariants as outcome
use Rattle.service_model.specs.declared.cert.Verdict.{Verdict}
use Rattle.service_model.specs.Net.{Net}
use Rattle.service_model.specs.Plans.{Feasible}
use Rattle.service_model.specs.Verdicts.{TrueAs, IsTrueOf}

feasible_as : (o : Outcome) (n : Net) (bound : ℕ) (plan : Option Plan) → TrueAs o n bound plan → IfSome plan (Feasible n)
feasible_as outcome.Optimal n bound None is = absurd is
feasible_as outcome.Optimal n bound (Some p) is = is.0.feasible
feasible_as outcome.Infeasible n bound None is = tt
feasible_as outcome.Infeasible n bound (Some p) is = (let none = is.1 in cc)
feasible_as outcome.Spent n bound None is = tt
feasible_as outcome.Spent n bound (Some p) is = is.1 p refl

-- the plan of a true verdict is feasible
pub plan_feasible : (n : Net) (v : Verdict) → IsTrueOf n v → IfSome v.plan (Feasible n)
plan_feasible n v is = feasible_as v.outcome n v.bound v.plan is
