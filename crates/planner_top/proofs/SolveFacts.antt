-- What a search's certificate says of the answer.
use Rattle.std.proofs.Common.{◌≡◌, ◌<◌, ◌≤◌, ℕ, ◌+◌, [], length, Some, Result, Ok, Err, refl, ap, ◌∙◌}
use Rattle.std.specs.Prelude.{IfSome, IfOk}
use Rattle.service_model.specs.declared.cert.Cert.{Cert}
use Rattle.service_model.specs.declared.cert.Outcome.TheVariants as outcome
use Rattle.service_model.specs.declared.cert.Verdict.{Verdict}
use Rattle.service_model.specs.Net.{Net}
use Rattle.service_model.specs.Plans.{Feasible}
use Rattle.service_model.specs.Verdicts.{IsTrueOf}
use Rattle.cert_files.proofs.VerdictFacts.{plan_feasible}
use Rattle.tree_order.specs.declared.forest.Forest.{Forest}
use Rattle.search_laws.specs.Own.{IsOwn}
use Rattle.search_laws.specs.Enough.{enough_of}
use Rattle.range_branch.specs.Solutions.{Solves}
use Rattle.network_check.specs.declared.checked.Checked.{Checked}
use Rattle.cert_check.specs.Bytes.{IsAcceptedBytes}
use Rattle.stock_report.specs.Lines.{lines_of}
use Rattle.cert_files.specs.Certificates.{cert_bytes, bytes_in}
use Rattle.planner_top.specs.Done.{IsSolution, told_rows, ending_by}
use Rattle.planner_top.specs.declared.task.Report.{Report}
use Rattle.planner_top.specs.Answers.{IsTextOf}
use Rattle.planner_top.specs.declared.answer.Answer.{Answer}

-- the plan of a true verdict is feasible
pub true_feasible : (n : Net) (v : Verdict) → IsTrueOf n v → IfSome v.plan (Feasible n)
true_feasible n v is = plan_feasible n v is

-- what a search gives within its budget
pub record IsSearched (n : Net) (f : Forest) (budget filled : ℕ) (x : Cert) : Type 0 where
  pub own : IsOwn n f budget x
  pub true_verdict : IsTrueOf n x.verdict
  pub filled_is : filled ≡ length x.tables
  pub accepted : IsAcceptedBytes n (cert_bytes x) x.verdict
  pub nodes : length x.nodes ≤ enough_of n f
  pub full : x.verdict.outcome ≡ outcome.Spent → budget < length x.nodes + 2
  pub short : x.verdict.outcome ≡ outcome.Spent → budget < enough_of n f
  pub solved : f.dropped ≡ [] → Solves n x.verdict
  pub one : f.dropped ≡ [] → length x.nodes ≡ 1
  pub stages : f.dropped ≡ [] → length x.tables ≡ length n.stages

-- the answer that its certificate shows is the solution
pub solution_shown : {E : Type 0} (r : Result Answer E) (c : Checked) (f : Forest) (budget : ℕ) (how : Report) (filled : ℕ) (x : Cert) → IsSearched c.network f budget filled x
    → IfOk r (λ a. a.ending ≡ ending_by x.verdict.outcome) → IfOk r (λ a. a.text ≡ lines_of (told_rows how c x.verdict (length x.nodes) (length x.tables))) → IfOk r (λ a. a.cert ≡ Some x)
    → IfOk r (λ a. IsTextOf a.text (λ rows. IsSolution a.ending rows filled (bytes_in a.cert) c f budget how))
solution_shown (Err e) c f budget how filled x is ending text cert = tt
solution_shown (Ok a) c f budget how filled x is ending text cert = (
  told_rows how c x.verdict (length x.nodes) (length x.tables),
  text,
  record {
    search = x;
    own = is.own;
    true_verdict = is.true_verdict;
    ending_is = ending;
    rows_are = refl;
    filled_is = is.filled_is;
    cert_is = ap bytes_in cert;
    accepted = is.accepted;
    nodes = is.nodes;
    full = is.full;
    short = is.short;
    solved = is.solved;
    one = is.one;
    stages = λ tree. is.filled_is ∙ is.stages tree;
  },
)
