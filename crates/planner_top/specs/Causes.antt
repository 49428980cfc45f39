-- Why a task ends as it does.
use Rattle.std.specs.Prelude.{◌≡◌, ◌≢◌, ◌<◌, ◌≤◌, ◌+◌, ℕ, [], length, ◌⊎◌, ⊤}
use Rattle.service_model.specs.declared.plan.Plan.{Plan}
use Rattle.service_model.specs.declared.cert.Cert.{Cert}
use Rattle.service_model.specs.declared.cert.Verdict.{Verdict}
use Rattle.service_model.specs.declared.cert.Outcome.TheVariants as outcome
use Rattle.service_model.specs.Net.{Net}
use Rattle.service_model.specs.Plans.{Feasible, Least, Empty, cost_of}
use Rattle.cert_check.specs.Bytes.{IsAcceptedBytes, IsRefusedBytes}
use Rattle.tree_order.specs.declared.forest.Forest.{Forest}
use Rattle.search_laws.specs.Own.{IsOwn}
use Rattle.search_laws.specs.Enough.{enough_of}
use Rattle.planner_top.specs.declared.task.Task.{Task}
use Rattle.planner_top.specs.declared.answer.Ending.{Ending}
use Rattle.planner_top.specs.declared.task.Task.TheVariants as task
use Rattle.planner_top.specs.declared.answer.Ending.TheVariants as ending

-- a task that can be done: there is a least plan, the plan is feasible, or the certificate is accepted; clusters and a session always can
abbrev pub CanBeDone : Task → Type 0
CanBeDone (task.Solve c f budget how) = (plan : Plan) × Least c.network plan
CanBeDone (task.Audit c plan) = Feasible c.network plan
CanBeDone (task.Check c bytes d) = (v : Verdict) × IsAcceptedBytes c.network bytes v
CanBeDone (task.Clusters c) = ⊤
CanBeDone (task.Session s script) = ⊤

-- the task is to read a certificate on which a rule fails
abbrev pub IsRefusedTask : Task → Type 0
IsRefusedTask (task.Check c bytes d) = (line : ℕ) × (rule : ℕ) × IsRefusedBytes c.network bytes line rule
IsRefusedTask _ = ⊥

-- the task is to test a plan that breaks a rule
abbrev pub IsBrokenTask : Task → Type 0
IsBrokenTask (task.Audit c plan) = ¬ Feasible c.network plan
IsBrokenTask _ = ⊥

-- the task is to solve a network that has no feasible plan
abbrev pub IsEmptyTask : Task → Type 0
IsEmptyTask (task.Solve c f budget how) = Empty c.network
IsEmptyTask _ = ⊥

-- a search within the budget ended before it found an answer: its forest drops an arc, two further ranges would pass the budget, which
-- is less than enough, and its bound is above the cost of no feasible plan
pub record IsSpent (n : Net) (f : Forest) (budget : ℕ) : Type 0 where
  pub drops : f.dropped ≢ []
  pub search : Cert
  pub own : IsOwn n f budget search
  pub spent : search.verdict.outcome ≡ outcome.Spent
  pub full : budget < length search.nodes + 2
  pub short : budget < enough_of n f
  pub below : (p : Plan) → Feasible n p → search.verdict.bound ≤ cost_of n p

-- the task is to solve a network whose search ends so
abbrev pub IsSpentTask : Task → Type 0
IsSpentTask (task.Solve c f budget how) = IsSpent c.network f budget
IsSpentTask _ = ⊥

-- the task is to solve a network whose forest drops an arc
abbrev pub DropsArc : Task → Type 0
DropsArc (task.Solve c f budget how) = f.dropped ≢ []
DropsArc _ = ⊥

-- the run ends so, or its budget was spent first, which happens only where the forest drops an arc
abbrev pub EndsOrSpent : Ending → Ending → Task → Type 0
EndsOrSpent e wanted t = (e ≡ wanted) ⊎ ((e ≡ ending.Spent) × DropsArc t)
