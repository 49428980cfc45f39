-- What a verdict says that solves its network.
use Rattle.std.specs.Prelude.{◌≡◌, ℕ, Option, None, IsSomeAnd}
use Rattle.service_model.specs.declared.limits.TheConstants.{INF}
use Rattle.service_model.specs.declared.plan.Plan.{Plan}
use Rattle.service_model.specs.declared.cert.Outcome.{Outcome}
use Rattle.service_model.specs.declared.cert.Outcome.TheVariants.{Optimal, Infeasible, Spent}
use Rattle.service_model.specs.declared.cert.Verdict.{Verdict}
use Rattle.service_model.specs.Net.{Net}
use Rattle.service_model.specs.Plans.{Least, Empty, cost_of}

-- an optimal outcome has a least plan, which costs the bound; an infeasible one has no plan, as no plan is feasible; no other solves
abbrev pub SolvesAs : Outcome → Net → ℕ → Option Plan → Type 0
SolvesAs Optimal n bound plan = IsSomeAnd plan (λ p. Least n p × (bound ≡ cost_of n p))
SolvesAs Infeasible n bound plan = (bound ≡ INF) × (plan ≡ None) × Empty n
SolvesAs Spent n bound plan = ⊥

-- the verdict solves the network
abbrev pub Solves : Net → Verdict → Type 0
Solves n v = SolvesAs v.outcome n v.bound v.plan
