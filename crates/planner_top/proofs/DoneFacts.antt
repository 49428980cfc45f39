-- What the answers of the commands say, by their texts.
use Rattle.std.proofs.Common.{◌≡◌, ◌-◌, ℕ, List, [], ◌∷◌, length, Option, Some, None, Result, Ok, Err, refl, ap, ◌∙◌, arith}
use Rattle.service_model.specs.declared.plan.Plan.{Plan}
use Rattle.service_model.specs.declared.breaks.Break.{Break}
use Rattle.service_model.specs.declared.cert.Verdict.{Verdict}
use Rattle.service_model.specs.Plans.{Feasible}
use Rattle.service_model.specs.Breaks.{first_break_of}
use Rattle.service_model.specs.Verdicts.{IsTrueOf}
use Rattle.cert_check.specs.Bytes.{IsAcceptedBytes, IsRefusedBytes}
use Rattle.network_check.specs.declared.checked.Checked.{Checked}
use Rattle.stock_report.specs.Lines.{lines_of}
use Rattle.stock_report.specs.Outcomes.{valid_row, not_accepted_row}
use Rattle.stock_report.specs.Audits.{audit_rows, broken_row, audited_by, audited_rows}
use Rattle.planner_top.specs.declared.answer.Answer.{Answer}
use Rattle.planner_top.specs.declared.answer.Ending.TheVariants as ending
use Rattle.planner_top.specs.declared.task.Task.TheVariants as task
use Rattle.cert_files.specs.Certificates.{bytes_in}
use Rattle.planner_top.specs.declared.task.Detail.{Detail}
use Rattle.planner_top.specs.declared.task.Detail.TheVariants as detail
use Rattle.cert_check.specs.declared.check_fault.CheckFault.{CheckFault}
use Rattle.cert_check.specs.declared.check_fault.CheckFault.TheVariants as check
use Rattle.cert_explain.specs.Explained.{ExplainCase}
use Rattle.cluster_split.specs.Clusters.{AreBridges, AreClusters}
use Rattle.stock_report.specs.Explanations.{explain_rows}
use Rattle.stock_report.specs.ClusterRows.{cluster_rows}
use Rattle.planner_top.specs.Done.{IsAudit, IsCheck, IsClustered, IsDone, AcceptedCase}
use Rattle.planner_top.specs.Answers.{IsTextOf}

-- a plan that breaks no rule
pub audit_done : (c : Checked) (p : Plan) (text : List ℕ) → first_break_of c.network p ≡ None → Feasible c.network p → text ≡ lines_of (audited_rows c p) → IsTextOf text (λ rows. IsAudit ending.Done rows c p)
audit_done c p text none feasible told = (audit_rows c p, told ∙ ap (λ (o : Option Break). lines_of (audited_by c p o)) none, (feasible, refl))

-- one that breaks a rule
pub audit_broken : (c : Checked) (p : Plan) (b : Break) (text : List ℕ) → first_break_of c.network p ≡ Some b → (¬ Feasible c.network p) → text ≡ lines_of (audited_rows c p) → IsTextOf text (λ rows. IsAudit ending.NotFeasible rows c p)
audit_broken c p b text some not told = (broken_row c b ∷ [], told ∙ ap (λ (o : Option Break). lines_of (audited_by c p o)) some, (not, (b, some, refl)))

-- a certificate that is accepted
pub check_done : (c : Checked) (bytes text : List ℕ) (d : Detail) → AcceptedCase d c bytes (Ok text) → IsTextOf text (λ rows. IsCheck ending.Done rows c bytes d)
check_done c bytes text d is = is

-- its verdict is told
pub verdict_told : (c : Checked) (bytes text : List ℕ) (v : Verdict) → IsAcceptedBytes c.network bytes v → IsTrueOf c.network v → text ≡ lines_of (valid_row c.network v ∷ []) → AcceptedCase detail.Verdict c bytes (Ok text)
verdict_told c bytes text v accepted true_verdict told = (valid_row c.network v ∷ [], told, (v, accepted, true_verdict, refl))

-- its explanation
pub explanation_told : (c : Checked) (bytes : List ℕ) (r : Result (List ℕ) CheckFault) → ExplainCase c bytes r → AcceptedCase detail.Explanation c bytes r
explanation_told c bytes (Ok text) is = (explain_rows c is.0, is.2, (is.0, is.1, refl))
explanation_told c bytes (Err (check.Fault f)) is = is
explanation_told c bytes (Err check.NoMemory) is = tt

-- one on which a rule fails
pub check_refused : (c : Checked) (bytes text : List ℕ) (d : Detail) (line rule : ℕ) → IsRefusedBytes c.network bytes line rule → text ≡ lines_of (not_accepted_row line rule ∷ []) → IsTextOf text (λ rows. IsCheck ending.NotAccepted rows c bytes d)
check_refused c bytes text d line rule refused told = (not_accepted_row line rule ∷ [], told, (line, rule, refused, refl))

-- the bridges and clusters of a network are told
pub clusters_told : (c : Checked) (text bridges clusters : List ℕ) → AreBridges c.network.arcs bridges → AreClusters (length c.network.stages) c.network.arcs clusters → text ≡ lines_of (cluster_rows c bridges clusters)
    → IsTextOf text (λ rows. IsClustered ending.Done rows c)
clusters_told c text bridges clusters are_bridges are_clusters told =
    (cluster_rows c bridges clusters, told, record { ending_is = refl; bridges = bridges; clusters = clusters; are_bridges = are_bridges; are_clusters = are_clusters; rows_are = refl })

-- no table is filled where the count stays
pub none_filled : (n : ℕ) → n - n ≡ 0
none_filled n = omega arith

-- an audit is a task that is done
pub audited : (a : Answer) (c : Checked) (p : Plan) (filled : ℕ) → filled ≡ 0 → IsTextOf a.text (λ rows. IsAudit a.ending rows c p) → a.cert ≡ None
    → IsTextOf a.text (λ rows. IsDone a.ending rows filled (bytes_in a.cert) (task.Audit c p))
audited a c p filled none audit cert = (audit.0, audit.1, (audit.2, none, ap bytes_in cert))

-- and so is a check
pub checked : (a : Answer) (c : Checked) (bytes : List ℕ) (d : Detail) (filled : ℕ) → filled ≡ 0 → IsTextOf a.text (λ rows. IsCheck a.ending rows c bytes d) → a.cert ≡ None
    → IsTextOf a.text (λ rows. IsDone a.ending rows filled (bytes_in a.cert) (task.Check c bytes d))
checked a c bytes d filled none check cert = (check.0, check.1, (check.2, none, ap bytes_in cert))

-- and so are clusters
pub clustered : (a : Answer) (c : Checked) (filled : ℕ) → filled ≡ 0 → IsTextOf a.text (λ rows. IsClustered a.ending rows c) → a.cert ≡ None
    → IsTextOf a.text (λ rows. IsDone a.ending rows filled (bytes_in a.cert) (task.Clusters c))
clustered a c filled none clusters cert = (clusters.0, clusters.1, (clusters.2, none, ap bytes_in cert))
