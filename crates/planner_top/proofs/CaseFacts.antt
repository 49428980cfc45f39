-- The task of files, by the steps that find it.
use Rattle.std.proofs.Common.{◌≡◌, ◌≤◌, ◌+◌, ℕ, List, length, Option, Some, None, Result, Ok, Err, refl, sym, subst, ap, ◌∙◌, arith}
use Rattle.std.specs.Option.{MatchOption}
use Rattle.service_model.specs.declared.plan.Plan.{Plan}
use Rattle.service_model.specs.Plans.{HasTimes}
use Rattle.stage_file.specs.declared.raw.RawNet.{RawNet}
use Rattle.stage_file.specs.declared.fault.FileFault.{FileFault}
use Rattle.stage_file.specs.declared.fault.ReadFault.{ReadFault}
use Rattle.stage_file.specs.declared.fault.ReadFault.TheVariants as read
use Rattle.stage_file.specs.Faults.{Reads}
use Rattle.stage_file.specs.Arcs.{names_of}
use Rattle.stage_file.specs.PlanRecords.{plan_file_fault, plan_of}
use Rattle.stage_file.specs.Rows.{rows_of_bytes}
use Rattle.stage_file.specs.Records.{AreCountable}
use Rattle.stage_file.specs.declared.raw.Files.{Files}
use Rattle.stage_file.specs.Raw.{raw_fault, raw_of}
use Rattle.network_check.specs.declared.checked.Checked.{Checked}
use Rattle.network_check.specs.Checked.{IsNetworkOf, IsChecked}
use Rattle.network_check.specs.Refusals.{IsFirstTogether, RecordsCase}
use Rattle.command_words.specs.declared.asked.TrialNumbers.{TrialNumbers}
use Rattle.command_words.specs.declared.command.Command.{Command}
use Rattle.command_words.specs.declared.command.Command.TheVariants as command
use Rattle.request_files.specs.declared.contents.Contents.{Contents}
use Rattle.request_files.specs.declared.files.TheConstants.{FILE_LIMIT, CERT_LIMIT}
use Rattle.planner_top.specs.declared.task.Task.{Task}
use Rattle.planner_top.specs.declared.task.Task.TheVariants as task
use Rattle.planner_top.specs.declared.task.Report.TheVariants as report
use Rattle.planner_top.specs.declared.task.Detail.TheVariants as detail
use Rattle.planner_top.specs.declared.stop.Stop.TheVariants as stop
use Rattle.planner_top.specs.declared.stop.Unsolved.{Unsolved}
use Rattle.planner_top.specs.declared.stop.Unsolved.TheVariants as unsolved
use Rattle.edit_reuse.specs.Refusals as reuse
use Rattle.edit_reuse.specs.Sessions.{State, IsOver, NewCase}
use Rattle.planner_top.specs.Tasks.{files_in, raw_in, IsLastFault, IsFirstRefused, trial_files}
use Rattle.planner_top.specs.Ready.{AreReadRows, AreReadFiles}
use Rattle.planner_top.specs.TaskCases.{TaskCase, TogetherCase, LastCase, SearchCase, TrialCase}
use Rattle.planner_top.specs.Stops.{unsolved_by}
use Rattle.planner_top.proofs.TaskFacts.{by_records, plan_has_times}

-- a rule on one file fails
pub raw_refused : (c : Command) (ranges : Option ℕ) (horizon : ℕ) (contents : Contents) (files : Files) (f : ReadFault) → files ≡ files_in contents → Reads (raw_fault horizon files) (raw_of horizon files) (Err f) → TaskCase c ranges horizon contents (Err (unsolved_by f))
raw_refused c ranges horizon contents files (read.Fault fault) same is = (let fails : raw_fault horizon (files_in contents) ≡ Some fault = ap (raw_fault horizon) (sym same) ∙ is in (Some fault, rw fails refl, refl))
raw_refused c ranges horizon contents files read.NoMemory same is = tt

-- a rule on the records together fails
pub records_refused : (c : Command) (ranges : Option ℕ) (raw : RawNet) (further : List ℕ) (f : ReadFault) → RecordsCase raw (Err f) → TogetherCase c ranges raw further (Err (unsolved_by f))
records_refused c ranges raw further (read.Fault fault) is = (Some fault, is, refl)
records_refused c ranges raw further read.NoMemory is = tt

-- none does
pub records_made : (c : Command) (ranges : Option ℕ) (raw : RawNet) (further : List ℕ) (r : Result Task Unsolved) → IsFirstTogether raw None → LastCase c ranges raw further r → TogetherCase c ranges raw further r
records_made c ranges raw further (Ok t) none is = (none, is.0, is.1, is.2)
records_made c ranges raw further (Err (unsolved.Stop (stop.Refused fault))) none is = (None, none, is)
records_made c ranges raw further (Err (unsolved.Stop (stop.Words fault))) none is = absurd is
records_made c ranges raw further (Err (unsolved.Stop (stop.TooLong word))) none is = absurd is
records_made c ranges raw further (Err (unsolved.Fault word)) none is = absurd is
records_made c ranges raw further (Err unsolved.NoMemory) none is = tt

behind : (c : Command) (ranges : Option ℕ) (raw : RawNet) (further : List ℕ) (fault : FileFault) (before : Option FileFault)
    → MatchOption before (IsLastFault c ranges raw further (Some fault)) (λ f. fault ≡ f) → MatchOption before (IsLastFault c ranges raw further (Some fault)) (λ f. (let some : Option FileFault = Some fault in some ≡ Some f))
behind c ranges raw further fault None is = is
behind c ranges raw further fault (Some f) is = ap Some is

-- the records are those of files
pub task_found : (c : Command) (ranges : Option ℕ) (horizon : ℕ) (contents : Contents) (raw : RawNet) (r : Result Task Unsolved) → raw_fault horizon (files_in contents) ≡ None → raw ≡ raw_in horizon contents
    → TogetherCase c ranges raw contents.further r → TaskCase c ranges horizon contents r
task_found c ranges horizon contents raw r none same is = from r (subst (λ (x : RawNet). TogetherCase c ranges x contents.further r) same is)
  where
    from : (r : Result Task Unsolved) → TogetherCase c ranges (raw_in horizon contents) contents.further r → TaskCase c ranges horizon contents r
    from (Ok t) is = (((None, rw none is.0, is.1), by_records c ranges horizon contents t is.2), is.3)
    from (Err (unsolved.Stop (stop.Refused fault))) is = (is.0, rw none is.1, behind c ranges (raw_in horizon contents) contents.further fault is.0 is.2)
    from (Err (unsolved.Stop (stop.Words fault))) is = absurd is
    from (Err (unsolved.Stop (stop.TooLong word))) is = absurd is
    from (Err (unsolved.Fault word)) is = absurd is
    from (Err unsolved.NoMemory) is = tt

-- a plan that was read is audited
pub audit_last : (ranges : Option ℕ) (raw : RawNet) (further : List ℕ) (c : Checked) (plan : Plan) → IsNetworkOf raw c → IsChecked c
    → Reads (plan_file_fault (names_of raw.stages) (rows_of_bytes further)) (plan_of (names_of raw.stages) (rows_of_bytes further)) (Ok plan) → LastCase command.Audit ranges raw further (Ok (task.Audit c plan))
audit_last ranges raw further c plan made checked is =
    (sym is.0, (c, made, ap (task.Audit c) is.1), (checked, subst (λ (p : Plan). HasTimes c.network p) (sym is.1) (plan_has_times raw c (rows_of_bytes further) made checked)))

-- the certificate of a network is checked
pub check_last : (ranges : Option ℕ) (raw : RawNet) (further : List ℕ) (c : Checked) → IsNetworkOf raw c → IsChecked c → length further ≤ CERT_LIMIT
    → LastCase command.Check ranges raw further (Ok (task.Check c further detail.Verdict))
check_last ranges raw further c made checked short = (refl, (c, made, refl), (checked, short))

-- and explained
pub explain_last : (ranges : Option ℕ) (raw : RawNet) (further : List ℕ) (c : Checked) → IsNetworkOf raw c → IsChecked c → length further ≤ CERT_LIMIT
    → LastCase command.Explain ranges raw further (Ok (task.Check c further detail.Explanation))
explain_last ranges raw further c made checked short = (refl, (c, made, refl), (checked, short))

-- the clusters of a network are found
pub clusters_last : (ranges : Option ℕ) (raw : RawNet) (further : List ℕ) (c : Checked) → IsNetworkOf raw c → IsChecked c → LastCase command.Clusters ranges raw further (Ok (task.Clusters c))
clusters_last ranges raw further c made checked = (refl, (c, made, refl), checked)

-- a network is solved, and reported stage by stage
pub solve_reported : (ranges : Option ℕ) (raw : RawNet) (further : List ℕ) (r : Result Task Unsolved) → SearchCase ranges raw report.Stages r → LastCase command.Solve ranges raw further r
solve_reported ranges raw further (Ok t) is = (sym is.0, is.1, is.2)
solve_reported ranges raw further (Err (unsolved.Stop (stop.Refused fault))) is = sym is
solve_reported ranges raw further (Err (unsolved.Stop (stop.Words fault))) is = absurd is
solve_reported ranges raw further (Err (unsolved.Stop (stop.TooLong word))) is = absurd is
solve_reported ranges raw further (Err (unsolved.Fault word)) is = absurd is
solve_reported ranges raw further (Err unsolved.NoMemory) is = tt

-- a rule on the plan file fails
pub audit_refused : (ranges : Option ℕ) (raw : RawNet) (further : List ℕ) (f : ReadFault)
    → Reads (plan_file_fault (names_of raw.stages) (rows_of_bytes further)) (plan_of (names_of raw.stages) (rows_of_bytes further)) (Err f) → LastCase command.Audit ranges raw further (Err (unsolved_by f))
audit_refused ranges raw further (read.Fault fault) is = sym is
audit_refused ranges raw further read.NoMemory is = tt

-- a session is over files on which no rule fails
pub session_found : (ranges : Option ℕ) (horizon : ℕ) (contents : Contents) (files : Files) (script : List (List (List ℕ))) (s : State) → files ≡ files_in contents → script ≡ rows_of_bytes contents.further → AreCountable script → AreReadRows script
    → AreReadFiles files → NewCase horizon ranges files (Ok s) → TaskCase command.Session ranges horizon contents (Ok (task.Session s script))
session_found ranges horizon contents files script s same read countable few roomy is =
    let over = subst (λ (x : Files). IsOver horizon ranges x s) same is in
    let holds : IsFirstRefused command.Session ranges horizon contents None = refused_none horizon ranges (files_in contents) s over in
    let stages : length s.files.stages ≤ FILE_LIMIT + 1 = subst (λ (x : Files). length x.stages ≤ FILE_LIMIT + 1) (sym is.files_are) roomy.stages in
    let tables : length s.files.tables ≤ FILE_LIMIT + 1 = subst (λ (x : Files). length x.tables ≤ FILE_LIMIT + 1) (sym is.files_are) roomy.tables in
    let arcs : length s.files.arcs ≤ FILE_LIMIT + 1 = subst (λ (x : Files). length x.arcs ≤ FILE_LIMIT + 1) (sym is.files_are) roomy.arcs in
    ((holds, (s, over, ap (task.Session s) read)), (countable, few, record { stages = omega (arith, stages, few); tables = omega (arith, tables, few); arcs = omega (arith, arcs, few) }))
  where
    refused_none : (horizon : ℕ) (asked : Option ℕ) (files : Files) (s : State) → IsOver horizon asked files s → reuse.IsFirstRefused horizon asked files None
    refused_none horizon asked files s over =
        subst (λ (x : Files). reuse.IsFirstRefused horizon asked x None) over.files_are
        (subst (λ (x : ℕ). reuse.IsFirstRefused x asked s.files None) over.horizon_is
        (subst (λ (x : Option ℕ). reuse.IsFirstRefused s.horizon x s.files None) over.asked_is over.session.budgeted.holds))

-- a rule on them fails
pub session_refused : (ranges : Option ℕ) (horizon : ℕ) (contents : Contents) (files : Files) (f : ReadFault) → files ≡ files_in contents → NewCase horizon ranges files (Err f) → TaskCase command.Session ranges horizon contents (Err (unsolved_by f))
session_refused ranges horizon contents files (read.Fault fault) same is = subst (λ (x : Files). reuse.IsFirstRefused horizon ranges x (Some fault)) same is
session_refused ranges horizon contents files read.NoMemory same is = tt

-- a trial is the search of the network of its files
pub trial_found : (t : TrialNumbers) (ranges : Option ℕ) (horizon : ℕ) (raw : RawNet) (r : Result Task Unsolved) → raw_fault horizon (trial_files t horizon) ≡ None → raw ≡ raw_of horizon (trial_files t horizon)
    → IsFirstTogether raw None → SearchCase ranges raw (report.Trial t.seed) r → TrialCase t ranges horizon r
trial_found t ranges horizon raw r none same together is =
    from r (subst (λ (x : RawNet). IsFirstTogether x None) same together) (subst (λ (x : RawNet). SearchCase ranges x (report.Trial t.seed) r) same is)
  where
    from : (r : Result Task Unsolved) → IsFirstTogether (raw_of horizon (trial_files t horizon)) None → SearchCase ranges (raw_of horizon (trial_files t horizon)) (report.Trial t.seed) r → TrialCase t ranges horizon r
    from (Ok u) together is = (((None, rw none together, sym is.0), is.1), is.2)
    from (Err (unsolved.Stop (stop.Refused fault))) together is = (None, rw none together, sym is)
    from (Err (unsolved.Stop (stop.Words fault))) together is = absurd is
    from (Err (unsolved.Stop (stop.TooLong word))) together is = absurd is
    from (Err (unsolved.Fault word)) together is = absurd is
    from (Err unsolved.NoMemory) together is = tt

-- a rule on one of its files fails
pub trial_refused : (t : TrialNumbers) (ranges : Option ℕ) (horizon : ℕ) (files : Files) (f : ReadFault) → files ≡ trial_files t horizon → Reads (raw_fault horizon files) (raw_of horizon files) (Err f) → TrialCase t ranges horizon (Err (unsolved_by f))
trial_refused t ranges horizon files (read.Fault fault) same is = (let fails : raw_fault horizon (trial_files t horizon) ≡ Some fault = ap (raw_fault horizon) (sym same) ∙ is in (Some fault, rw fails refl, refl))
trial_refused t ranges horizon files read.NoMemory same is = tt

-- a rule on its records together fails
pub trial_breaks : (t : TrialNumbers) (ranges : Option ℕ) (horizon : ℕ) (raw : RawNet) (f : ReadFault) → raw_fault horizon (trial_files t horizon) ≡ None → raw ≡ raw_of horizon (trial_files t horizon) → RecordsCase raw (Err f)
    → TrialCase t ranges horizon (Err (unsolved_by f))
trial_breaks t ranges horizon raw (read.Fault fault) none same is = (Some fault, rw none (subst (λ (x : RawNet). IsFirstTogether x (Some fault)) same is), refl)
trial_breaks t ranges horizon raw read.NoMemory none same is = tt
