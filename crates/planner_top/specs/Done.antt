-- What a task that is done gives.
use Rattle.std.specs.Prelude.{◌≡◌, ◌<◌, ◌≤◌, ◌+◌, ℕ, List, [], ◌∷◌, length, Option, Some, None, Result, Ok, Err, ⊤}
use Rattle.service_model.specs.declared.plan.Plan.{Plan}
use Rattle.service_model.specs.declared.breaks.Break.{Break}
use Rattle.service_model.specs.declared.cert.Cert.{Cert}
use Rattle.service_model.specs.declared.cert.Outcome.{Outcome}
use Rattle.service_model.specs.Plans.{Feasible}
use Rattle.service_model.specs.declared.cert.Verdict.{Verdict}
use Rattle.service_model.specs.Breaks.{first_break_of}
use Rattle.service_model.specs.Verdicts.{IsTrueOf}
use Rattle.cert_check.specs.Bytes.{IsAcceptedBytes, IsRefusedBytes}
use Rattle.cert_check.specs.declared.check_fault.CheckFault.{CheckFault}
use Rattle.cert_check.specs.declared.check_fault.CheckFault.TheVariants as check
use Rattle.tree_order.specs.declared.forest.Forest.{Forest}
use Rattle.search_laws.specs.Own.{IsOwn}
use Rattle.search_laws.specs.Enough.{enough_of}
use Rattle.range_branch.specs.Solutions.{Solves}
use Rattle.network_check.specs.declared.checked.Checked.{Checked}
use Rattle.stock_report.specs.Lines.{lines_of}
use Rattle.stock_report.specs.Answers.{solution_rows}
use Rattle.stock_report.specs.Trials.{trial_rows}
use Rattle.stock_report.specs.Explanations.{explain_rows}
use Rattle.stock_report.specs.ClusterRows.{cluster_rows}
use Rattle.cert_explain.specs.Explained.{IsCertOf}
use Rattle.cluster_split.specs.Clusters.{AreBridges, AreClusters}
use Rattle.stock_report.specs.Audits.{audit_rows, broken_row}
use Rattle.stock_report.specs.Outcomes.{valid_row, not_accepted_row}
use Rattle.service_model.specs.declared.cert.Outcome.TheVariants as outcome
use Rattle.planner_top.specs.declared.task.Task.{Task}
use Rattle.planner_top.specs.declared.task.Report.{Report}
use Rattle.planner_top.specs.declared.task.Detail.{Detail}
use Rattle.planner_top.specs.declared.answer.Ending.{Ending}
use Rattle.planner_top.specs.declared.task.Task.TheVariants as task
use Rattle.planner_top.specs.declared.task.Report.TheVariants as report
use Rattle.planner_top.specs.declared.task.Detail.TheVariants as detail
use Rattle.planner_top.specs.declared.answer.Ending.TheVariants as ending
use Rattle.cert_files.specs.Certificates.{cert_bytes}

-- the ending of a search that ended so
abbrev pub ending_by : Outcome → Ending
ending_by outcome.Optimal = ending.Done
ending_by outcome.Infeasible = ending.Infeasible
ending_by outcome.Spent = ending.Spent

-- what is printed for the verdict of a search, with the numbers of ranges and of tables
abbrev pub told_rows : Report → Checked → Verdict → ℕ → ℕ → List (List (List ℕ))
told_rows report.Stages c v ranges filled = solution_rows c v ranges filled
told_rows (report.Trial seed) c v ranges filled = trial_rows seed c.network v ranges filled

-- the solution of a network, with its lines: a search within the budget has a certificate of its own, whose verdict is true of the
-- network and is printed with the numbers of its ranges and of its tables; its bytes are made, and are accepted with that verdict
pub record IsSolution (e : Ending) (rows : List (List (List ℕ))) (filled : ℕ) (cert : Option (List ℕ)) (c : Checked) (f : Forest) (budget : ℕ) (how : Report) : Type 0 where
  pub search : Cert
  pub own : IsOwn c.network f budget search
  pub true_verdict : IsTrueOf c.network search.verdict
  pub ending_is : e ≡ ending_by search.verdict.outcome
  pub rows_are : rows ≡ told_rows how c search.verdict (length search.nodes) (length search.tables)
  pub filled_is : filled ≡ length search.tables
  pub cert_is : cert ≡ Some (cert_bytes search)
  pub accepted : IsAcceptedBytes c.network (cert_bytes search) search.verdict
  -- there are no more ranges than are enough; the budget is spent only where two further ranges would pass it, and where it is less
  -- than enough
  pub nodes : length search.nodes ≤ enough_of c.network f
  pub full : search.verdict.outcome ≡ outcome.Spent → budget < length search.nodes + 2
  pub short : search.verdict.outcome ≡ outcome.Spent → budget < enough_of c.network f
  -- where the forest drops no arc, one range solves the network, with one table for each stage
  pub solved : f.dropped ≡ [] → Solves c.network search.verdict
  pub one : f.dropped ≡ [] → length search.nodes ≡ 1
  pub stages : f.dropped ≡ [] → filled ≡ length c.network.stages

-- the audit of a plan, with its lines: it is feasible, or the first rule that it breaks
abbrev pub IsAudit : Ending → List (List (List ℕ)) → Checked → Plan → Type 0
IsAudit ending.Done rows c plan = Feasible c.network plan × (rows ≡ audit_rows c plan)
IsAudit ending.NotFeasible rows c plan =
    (¬ Feasible c.network plan) × ((broken : Break) × (first_break_of c.network plan ≡ Some broken) × (rows ≡ broken_row c broken ∷ []))
IsAudit _ rows c plan = ⊥

-- an accepted certificate, with its lines: its verdict, or its explanation
abbrev pub IsAcceptedSo : Detail → List (List (List ℕ)) → Checked → List ℕ → Type 0
IsAcceptedSo detail.Verdict rows c bytes =
    (v : Verdict) × IsAcceptedBytes c.network bytes v × IsTrueOf c.network v × (rows ≡ valid_row c.network v ∷ [])
IsAcceptedSo detail.Explanation rows c bytes = (cert : Cert) × IsCertOf c.network bytes cert × (rows ≡ explain_rows c cert)

-- the check of a certificate, with its lines: it is accepted with a verdict, which is true of the network, or a rule fails on a line
abbrev pub IsCheck : Ending → List (List (List ℕ)) → Checked → List ℕ → Detail → Type 0
IsCheck ending.Done rows c bytes d = IsAcceptedSo d rows c bytes
IsCheck ending.NotAccepted rows c bytes d =
    (line : ℕ) × (rule : ℕ) × IsRefusedBytes c.network bytes line rule × (rows ≡ not_accepted_row line rule ∷ [])
IsCheck _ rows c bytes d = ⊥

-- what is printed of an accepted certificate, or the first rule that fails on it, with its line
abbrev pub AcceptedCase : Detail → Checked → List ℕ → Result (List ℕ) CheckFault → Type 0
AcceptedCase d c bytes (Ok text) = (rows : List (List (List ℕ))) × (text ≡ lines_of rows) × IsAcceptedSo d rows c bytes
AcceptedCase d c bytes (Err (check.Fault f)) = IsRefusedBytes c.network bytes f.line f.rule
AcceptedCase d c bytes (Err check.NoMemory) = ⊤

-- the bridges and clusters of a network, with their lines
pub record IsClustered (e : Ending) (rows : List (List (List ℕ))) (c : Checked) : Type 0 where
  pub ending_is : e ≡ ending.Done
  pub bridges : List ℕ
  pub clusters : List ℕ
  pub are_bridges : AreBridges c.network.arcs bridges
  pub are_clusters : AreClusters (length c.network.stages) c.network.arcs clusters
  pub rows_are : rows ≡ cluster_rows c bridges clusters

-- a task that is done at once, with its lines, the number of tables that were filled for it and the bytes of the certificate that was made
abbrev pub IsDone : Ending → List (List (List ℕ)) → ℕ → Option (List ℕ) → Task → Type 0
IsDone e rows filled cert (task.Solve c f budget how) = IsSolution e rows filled cert c f budget how
IsDone e rows filled cert (task.Audit c plan) = IsAudit e rows c plan × (filled ≡ 0) × (cert ≡ None)
IsDone e rows filled cert (task.Check c bytes d) = IsCheck e rows c bytes d × (filled ≡ 0) × (cert ≡ None)
IsDone e rows filled cert (task.Clusters c) = IsClustered e rows c × (filled ≡ 0) × (cert ≡ None)
IsDone e rows filled cert (task.Session s script) = ⊥
