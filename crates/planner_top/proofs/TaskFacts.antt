-- What words and files ask to be done is one thing.
use Rattle.std.proofs.Common.{◌≡◌, ℕ, List, length, Option, Some, None, Result, Ok, Err, refl, sym, subst, ap, ◌∙◌, inl, inr}
use Rattle.std.specs.Option.{MatchOption}
use Rattle.std.specs.Result.{MatchResult}
use Rattle.std.proofs.lemmas.List.{length-map}
use Rattle.service_model.specs.declared.stage.SupplyArc.{SupplyArc}
use Rattle.service_model.specs.Plans.{HasTimes}
use Rattle.stage_file.specs.declared.stages.StageRow.{StageRow}
use Rattle.stage_file.specs.declared.raw.Files.{Files}
use Rattle.stage_file.specs.declared.raw.RawNet.{RawNet}
use Rattle.stage_file.specs.declared.fault.FileFault.{FileFault}
use Rattle.stage_file.specs.Arcs.{names_of}
use Rattle.stage_file.specs.Rows.{rows_of_bytes}
use Rattle.stage_file.specs.PlanRecords.{plan_of}
use Rattle.stage_file.specs.Raw.{raw_fault, raw_of, IsRawNet}
use Rattle.gsm_outside.specs.Held.{Held}
use Rattle.tree_order.specs.declared.forest.Forest.{Forest}
use Rattle.tree_order.specs.Forest.{IsForest, IsOnlyForest}
use Rattle.network_check.specs.declared.checked.Checked.{Checked}
use Rattle.network_check.specs.Budgets.{IsBudgetOf}
use Rattle.network_check.specs.Checked.{supply_arcs, IsNetworkOf, IsChecked}
use Rattle.network_check.specs.Refusals.{IsFirstTogether}
use Rattle.network_check.proofs.RefusalLaws.{raw_within, one_refusal, one_network_of}
use Rattle.command_words.specs.declared.asked.TrialNumbers.{TrialNumbers}
use Rattle.command_words.specs.declared.command.Command.{Command}
use Rattle.command_words.specs.declared.command.Command.TheVariants as command
use Rattle.request_files.specs.declared.contents.Contents.{Contents}
use Rattle.command_words.specs.declared.word_fault.WordFault.{WordFault}
use Rattle.planner_top.specs.declared.task.Task.{Task}
use Rattle.planner_top.specs.declared.task.Task.TheVariants as task
use Rattle.planner_top.specs.declared.task.Report.{Report}
use Rattle.planner_top.specs.declared.task.Report.TheVariants as report
use Rattle.planner_top.specs.declared.task.Detail.TheVariants as detail
use Rattle.command_words.specs.declared.file_word.FileWord.{FileWord}
use Rattle.planner_top.specs.declared.stop.Stop.{Stop}
use Rattle.planner_top.specs.declared.stop.Stop.TheVariants as stop
use Rattle.command_words.specs.Asked.{Asked, asked_of}
use Rattle.edit_reuse.specs.declared.budget.Budgeted.{Budgeted}
use Rattle.edit_reuse.specs.Refusals.{AreBudgeted}
use Rattle.edit_reuse.specs.Sessions.{State, state_of, IsOver}
use Rattle.edit_reuse.specs.Refusals.{budget_fault}
use Rattle.planner_top.specs.Tasks.{files_in, raw_in, IsForestIn, IsSearchOf, IsLastFault, IsTaskFrom, IsTaskBy, IsFirstOn, IsTask, trial_files, IsTrialTask}
use Rattle.planner_top.specs.Ready.{command_of}
use Rattle.planner_top.specs.Answers.{IsFilesProblem, IsAskedProblem, IsProblem}
use Rattle.planner_top.proofs.BudgetFacts.{one_budget}

-- the first rule that fails behind those on the network is one
one_last : (c : Command) (ranges : Option ℕ) (raw : RawNet) (further : List ℕ) (a b : Option FileFault) → IsLastFault c ranges raw further a → IsLastFault c ranges raw further b → a ≡ b
one_last command.Solve ranges raw further a b is also = is ∙ sym also
one_last command.Audit ranges raw further a b is also = is ∙ sym also
one_last command.Check ranges raw further a b is also = is ∙ sym also
one_last command.Explain ranges raw further a b is also = is ∙ sym also
one_last command.Clusters ranges raw further a b is also = is ∙ sym also
one_last command.Session ranges raw further a b is also = is ∙ sym also
one_last command.Trial ranges raw further a b is also = is ∙ sym also

one_behind : (IsLast : Option FileFault → Type 0) (before a b : Option FileFault) → (IsLast a → IsLast b → a ≡ b)
    → MatchOption before (IsLast a) (λ f. a ≡ Some f) → MatchOption before (IsLast b) (λ f. b ≡ Some f) → a ≡ b
one_behind IsLast None a b one is also = one is also
one_behind IsLast (Some f) a b one is also = is ∙ sym also

-- the first rule that fails on files and on what is asked of them is one, where the latter is
one_refused : (horizon : ℕ) (files : Files) (IsLast : Option FileFault → Type 0) (a b : Option FileFault) → (IsLast a → IsLast b → a ≡ b) → IsFirstOn horizon files IsLast a → IsFirstOn horizon files IsLast b → a ≡ b
one_refused horizon files IsLast a b one is also =
    let before = one_refusal horizon files also.0 is.0 also.1 is.1 in
    one_behind IsLast is.0 a b one is.2 (subst (λ (x : Option FileFault). MatchOption x (IsLast b) (λ f. b ≡ Some f)) before also.2)

abbrev nothing : Option FileFault
nothing = None

-- where none fails, none fails on the network
passes : (horizon : ℕ) (files : Files) (IsLast : Option FileFault → Type 0) → IsFirstOn horizon files IsLast None → IsRawNet (raw_of horizon files) × IsFirstTogether (raw_of horizon files) None
passes horizon files IsLast is = behind is.0 is.1 is.2
  where
    raw_passes : (fault : Option FileFault) → raw_fault horizon files ≡ fault → MatchOption fault (IsFirstTogether (raw_of horizon files) None) (λ f. nothing ≡ Some f)
        → IsRawNet (raw_of horizon files) × IsFirstTogether (raw_of horizon files) None
    raw_passes None none is = (raw_within horizon files none, is)
    raw_passes (Some f) some is = cc

    behind : (before : Option FileFault) → MatchOption (raw_fault horizon files) (IsFirstTogether (raw_of horizon files) before) (λ f. before ≡ Some f) → MatchOption before (IsLast None) (λ f. nothing ≡ Some f)
        → IsRawNet (raw_of horizon files) × IsFirstTogether (raw_of horizon files) None
    behind None first is = raw_passes (raw_fault horizon files) refl first
    behind (Some f) first is = cc

-- the search of a network of records is one
one_search : (ranges : Option ℕ) (raw : RawNet) (how : Report) (t u : Task) → IsRawNet raw × IsFirstTogether raw None → IsSearchOf ranges raw how t → IsSearchOf ranges raw how u → t ≡ u
one_search ranges raw how t u passed is also =
    let network = one_network_of raw is.checked also.checked passed.0 passed.1 is.network also.network in
    let forest : is.forest ≡ also.forest = sym (is.forest_in.only also.forest also.forest_in.forest) in
    let budget = one_budget is.checked.network ranges is.budget also.budget is.budget_is (subst (λ (x : Checked). IsBudgetOf x.network ranges (Ok also.budget)) (sym network) also.budget_is) in
    is.task_is
    ∙ ap (λ (x : Checked). task.Solve x is.forest is.budget how) network
    ∙ ap (λ (x : Forest). task.Solve also.checked x is.budget how) forest
    ∙ ap (λ (x : ℕ). task.Solve also.checked also.forest x how) budget
    ∙ sym also.task_is

-- so is what is made of the one network
one_made : (raw : RawNet) (make : Checked → Task) (t u : Task) → IsRawNet raw × IsFirstTogether raw None → (c : Checked) × IsNetworkOf raw c × (t ≡ make c) → (c : Checked) × IsNetworkOf raw c × (u ≡ make c) → t ≡ u
one_made raw make t u passed is also = is.2 ∙ ap make (one_network_of raw is.0 also.0 passed.0 passed.1 is.1 also.1) ∙ sym also.2

one_task_from : (c : Command) (ranges : Option ℕ) (raw : RawNet) (further : List ℕ) (t u : Task) → IsRawNet raw × IsFirstTogether raw None → IsTaskFrom c ranges raw further t → IsTaskFrom c ranges raw further u → t ≡ u
one_task_from command.Solve ranges raw further t u passed is also = one_search ranges raw report.Stages t u passed is also
one_task_from command.Audit ranges raw further t u passed is also = one_made raw (λ c. task.Audit c (plan_of (names_of raw.stages) (rows_of_bytes further))) t u passed is also
one_task_from command.Check ranges raw further t u passed is also = one_made raw (λ c. task.Check c further detail.Verdict) t u passed is also
one_task_from command.Explain ranges raw further t u passed is also = one_made raw (λ c. task.Check c further detail.Explanation) t u passed is also
one_task_from command.Clusters ranges raw further t u passed is also = one_made raw task.Clusters t u passed is also
one_task_from command.Session ranges raw further t u passed is also = absurd is
one_task_from command.Trial ranges raw further t u passed is also = absurd is

-- a session over files is one
one_session : (horizon : ℕ) (asked : Option ℕ) (files : Files) (s t : State) → IsRawNet (raw_of horizon files) → IsFirstTogether (raw_of horizon files) None → IsOver horizon asked files s → IsOver horizon asked files t → s ≡ t
one_session horizon asked files s t read none is also = from s t is.files_are is.horizon_is is.asked_is also.files_are also.horizon_is also.asked_is is.session.budgeted also.session.budgeted
  where
    from : (s t : State) → s.files ≡ files → s.horizon ≡ horizon → s.asked ≡ asked → t.files ≡ files → t.horizon ≡ horizon → t.asked ≡ asked
        → AreBudgeted s.horizon s.asked s.files s.made → AreBudgeted t.horizon t.asked t.files t.made → s ≡ t
    from s t sf sh sa tf th ta is also =
        let a : AreBudgeted horizon asked files s.made = subst (λ (x : Files). AreBudgeted horizon asked x s.made) sf (subst (λ (x : Option ℕ). AreBudgeted horizon x s.files s.made) sa (subst (λ (x : ℕ). AreBudgeted x s.asked s.files s.made) sh is)) in
        let b : AreBudgeted horizon asked files t.made = subst (λ (x : Files). AreBudgeted horizon asked x t.made) tf (subst (λ (x : Option ℕ). AreBudgeted horizon x t.files t.made) ta (subst (λ (x : ℕ). AreBudgeted x t.asked t.files t.made) th also)) in
        let network = one_network_of (raw_of horizon files) s.made.checked t.made.checked read none a.network b.network in
        let budget = one_budget s.made.checked.network asked s.made.budget t.made.budget a.budget_is (subst (λ (x : Checked). IsBudgetOf x.network asked (Ok t.made.budget)) (sym network) b.budget_is) in
        let made : s.made ≡ t.made = ap (λ (x : Checked). (let m : Budgeted = record { checked = x; budget = s.made.budget } in m)) network ∙ ap (λ (x : ℕ). (let m : Budgeted = record { checked = t.made.checked; budget = x } in m)) budget in
        ap (λ (x : Files). state_of x s.horizon s.asked s.made) (sf ∙ sym tf) ∙ ap (λ (x : ℕ). state_of t.files x s.asked s.made) (sh ∙ sym th)
        ∙ ap (λ (x : Option ℕ). state_of t.files t.horizon x s.made) (sa ∙ sym ta) ∙ ap (λ (x : Budgeted). state_of t.files t.horizon t.asked x) made

one_task_by : (c : Command) (ranges : Option ℕ) (horizon : ℕ) (contents : Contents) (t u : Task) → IsRawNet (raw_in horizon contents) × IsFirstTogether (raw_in horizon contents) None → IsTaskBy c ranges horizon contents t → IsTaskBy c ranges horizon contents u → t ≡ u
one_task_by command.Solve ranges horizon contents t u passed is also = one_task_from command.Solve ranges (raw_in horizon contents) contents.further t u passed is also
one_task_by command.Audit ranges horizon contents t u passed is also = one_task_from command.Audit ranges (raw_in horizon contents) contents.further t u passed is also
one_task_by command.Check ranges horizon contents t u passed is also = one_task_from command.Check ranges (raw_in horizon contents) contents.further t u passed is also
one_task_by command.Explain ranges horizon contents t u passed is also = one_task_from command.Explain ranges (raw_in horizon contents) contents.further t u passed is also
one_task_by command.Clusters ranges horizon contents t u passed is also = one_task_from command.Clusters ranges (raw_in horizon contents) contents.further t u passed is also
one_task_by command.Session ranges horizon contents t u passed is also =
    is.2 ∙ ap (λ (x : State). task.Session x (rows_of_bytes contents.further)) (one_session horizon ranges (files_in contents) is.0 also.0 passed.0 passed.1 is.1 also.1) ∙ sym also.2
one_task_by command.Trial ranges horizon contents t u passed is also = absurd is

-- the first rule that fails behind those on the network, by the files
abbrev last_in : Command → Option ℕ → ℕ → Contents → Option FileFault → Type 0
last_in c ranges horizon contents fault = IsLastFault c ranges (raw_in horizon contents) contents.further fault

-- what a command does with files is one thing
one_task : (c : Command) (ranges : Option ℕ) (horizon : ℕ) (contents : Contents) (a b : Result Task Stop) → IsTask c ranges horizon contents a → IsTask c ranges horizon contents b → a ≡ b
one_task c ranges horizon contents a b is also = from a b is also
  where
    from : (a b : Result Task Stop) → IsTask c ranges horizon contents a → IsTask c ranges horizon contents b → a ≡ b
    from (Ok t) (Ok u) is also = ap Ok (one_task_by c ranges horizon contents t u (passes horizon (files_in contents) (last_in c ranges horizon contents) is.0) is.1 also.1)
    from (Ok t) (Err (stop.Refused f)) is also = (let same = one_refused horizon (files_in contents) (last_in c ranges horizon contents) None (Some f) (one_last c ranges (raw_in horizon contents) contents.further None (Some f)) is.0 also in cc)
    from (Ok t) (Err (stop.Words f)) is also = absurd also
    from (Ok t) (Err (stop.TooLong w)) is also = absurd also
    from (Err (stop.Refused f)) (Ok t) is also = (let same = one_refused horizon (files_in contents) (last_in c ranges horizon contents) (Some f) None (one_last c ranges (raw_in horizon contents) contents.further (Some f) None) is also.0 in cc)
    from (Err (stop.Refused f)) (Err (stop.Refused g)) is also = (let same = one_refused horizon (files_in contents) (last_in c ranges horizon contents) (Some f) (Some g) (one_last c ranges (raw_in horizon contents) contents.further (Some f) (Some g)) is also in cc)
    from (Err (stop.Refused f)) (Err (stop.Words g)) is also = absurd also
    from (Err (stop.Refused f)) (Err (stop.TooLong w)) is also = absurd also
    from (Err (stop.Words f)) b is also = absurd is
    from (Err (stop.TooLong w)) b is also = absurd is

-- what files that a shelf tells ask is one thing
one_by_files : (q : Asked) (m : Held) (a b : Result Task Stop) → IsFilesProblem q (Some m) a → IsFilesProblem q (Some m) b → a ≡ b
one_by_files q m a b (inl (c, have, is)) (inl (d, having, also)) =
    let same : d ≡ c = having.1.1 ∙ sym have.1.1 in
    one_task q.command q.ranges q.horizon c a b is (subst (λ (x : Contents). IsTask q.command q.ranges q.horizon x b) same also)
one_by_files q m a b (inl (c, have, is)) (inr (word, long, also)) = (let none = have.1.0 in let some = long.1 in cc)
one_by_files q m a b (inr (word, long, is)) (inl (d, having, also)) = (let none = having.1.0 in let some = long.1 in cc)
one_by_files q m a b (inr (word, long, is)) (inr (other, longer, also)) = (let first = long.1 in let second = longer.1 in let same : word ≡ other = cc in is ∙ ap (λ (x : FileWord). Err (stop.TooLong x)) same ∙ sym also)

-- the rule on the budget, by the files of a trial
abbrev trial_last : TrialNumbers → Option ℕ → ℕ → Option FileFault → Type 0
trial_last t ranges horizon fault = fault ≡ budget_fault (raw_of horizon (trial_files t horizon)) ranges

one_last_trial : (t : TrialNumbers) (ranges : Option ℕ) (horizon : ℕ) (a b : Option FileFault) → trial_last t ranges horizon a → trial_last t ranges horizon b → a ≡ b
one_last_trial t ranges horizon a b is also = is ∙ sym also

-- what a trial is is one thing
one_trial : (t : TrialNumbers) (ranges : Option ℕ) (horizon : ℕ) (a b : Result Task Stop) → IsTrialTask t ranges horizon a → IsTrialTask t ranges horizon b → a ≡ b
one_trial t ranges horizon a b is also = from a b is also
  where
    from : (a b : Result Task Stop) → IsTrialTask t ranges horizon a → IsTrialTask t ranges horizon b → a ≡ b
    from (Ok u) (Ok v) is also = ap Ok (one_search ranges (raw_of horizon (trial_files t horizon)) (report.Trial t.seed) u v (passes horizon (trial_files t horizon) (trial_last t ranges horizon) is.0) is.1 also.1)
    from (Ok u) (Err (stop.Refused f)) is also = (let same = one_refused horizon (trial_files t horizon) (trial_last t ranges horizon) None (Some f) (one_last_trial t ranges horizon None (Some f)) is.0 also in cc)
    from (Ok u) (Err (stop.Words f)) is also = absurd also
    from (Ok u) (Err (stop.TooLong w)) is also = absurd also
    from (Err (stop.Refused f)) (Ok u) is also = (let same = one_refused horizon (trial_files t horizon) (trial_last t ranges horizon) (Some f) None (one_last_trial t ranges horizon (Some f) None) is also.0 in cc)
    from (Err (stop.Refused f)) (Err (stop.Refused g)) is also = (let same = one_refused horizon (trial_files t horizon) (trial_last t ranges horizon) (Some f) (Some g) (one_last_trial t ranges horizon (Some f) (Some g)) is also in cc)
    from (Err (stop.Refused f)) (Err (stop.Words g)) is also = absurd also
    from (Err (stop.Refused f)) (Err (stop.TooLong w)) is also = absurd also
    from (Err (stop.Words f)) b is also = absurd is
    from (Err (stop.TooLong w)) b is also = absurd is

one_of_kind : (trial : Option TrialNumbers) (q : Asked) (m : Held) (a b : Result Task Stop)
    → MatchOption trial (IsFilesProblem q (Some m) a) (λ t. IsTrialTask t q.ranges q.horizon a) → MatchOption trial (IsFilesProblem q (Some m) b) (λ t. IsTrialTask t q.ranges q.horizon b) → a ≡ b
one_of_kind None q m a b is also = one_by_files q m a b is also
one_of_kind (Some t) q m a b is also = one_trial t q.ranges q.horizon a b is also

one_asked : (asked : Result Asked WordFault) (m : Held) (a b : Result Task Stop)
    → MatchResult asked (λ q. IsAskedProblem q (Some m) a) (λ fault. a ≡ Err (stop.Words fault)) → MatchResult asked (λ q. IsAskedProblem q (Some m) b) (λ fault. b ≡ Err (stop.Words fault)) → a ≡ b
one_asked (Ok q) m a b is also = one_of_kind q.trial q m a b is also
one_asked (Err fault) m a b is also = is ∙ sym also

-- what words ask to be done on a shelf that tells, or why they are refused, is one thing
pub one_problem : (words : List (List ℕ)) (m : Held) (a b : Result Task Stop) → IsProblem words (Some m) a → IsProblem words (Some m) b → a ≡ b
one_problem words m a b is also = one_asked (asked_of words) m a b is also

-- what a command does is a task of its own
own_from : (c : Command) (ranges : Option ℕ) (raw : RawNet) (further : List ℕ) (t : Task) → IsTaskFrom c ranges raw further t → command_of t ≡ c
own_from command.Solve ranges raw further t is = ap command_of is.task_is
own_from command.Audit ranges raw further t is = ap command_of is.2
own_from command.Check ranges raw further t is = ap command_of is.2
own_from command.Explain ranges raw further t is = ap command_of is.2
own_from command.Clusters ranges raw further t is = ap command_of is.2
own_from command.Session ranges raw further t is = absurd is
own_from command.Trial ranges raw further t is = absurd is

pub own_task : (c : Command) (ranges : Option ℕ) (horizon : ℕ) (contents : Contents) (t : Task) → IsTaskBy c ranges horizon contents t → command_of t ≡ c
own_task command.Solve ranges horizon contents t is = own_from command.Solve ranges (raw_in horizon contents) contents.further t is
own_task command.Audit ranges horizon contents t is = own_from command.Audit ranges (raw_in horizon contents) contents.further t is
own_task command.Check ranges horizon contents t is = own_from command.Check ranges (raw_in horizon contents) contents.further t is
own_task command.Explain ranges horizon contents t is = own_from command.Explain ranges (raw_in horizon contents) contents.further t is
own_task command.Clusters ranges horizon contents t is = own_from command.Clusters ranges (raw_in horizon contents) contents.further t is
own_task command.Session ranges horizon contents t is = ap command_of is.2
own_task command.Trial ranges horizon contents t is = absurd is

-- what a command other than a session does with records, it does with their files
pub by_records : (c : Command) (ranges : Option ℕ) (horizon : ℕ) (contents : Contents) (t : Task) → IsTaskFrom c ranges (raw_in horizon contents) contents.further t → IsTaskBy c ranges horizon contents t
by_records command.Solve ranges horizon contents t is = is
by_records command.Audit ranges horizon contents t is = is
by_records command.Check ranges horizon contents t is = is
by_records command.Explain ranges horizon contents t is = is
by_records command.Clusters ranges horizon contents t is = is
by_records command.Session ranges horizon contents t is = absurd is
by_records command.Trial ranges horizon contents t is = absurd is

-- the network of records has as many stages as they
pub stages_are : (raw : RawNet) (c : Checked) → IsNetworkOf raw c → IsChecked c → length c.network.stages ≡ length raw.stages
stages_are raw c is checked =
    sym checked.names ∙ ap (λ (x : Checked). length x.names) is.made ∙ length-map raw.stages (λ (s : StageRow). s.name)

-- a plan of a file has the two times of each stage
pub plan_has_times : (raw : RawNet) (c : Checked) (rows : List (List (List ℕ))) → IsNetworkOf raw c → IsChecked c → HasTimes c.network (plan_of (names_of raw.stages) rows)
unfolding plan_of
plan_has_times raw c rows is checked =
    let names : length (names_of raw.stages) ≡ length c.network.stages = length-map raw.stages (λ (s : StageRow). s.name) ∙ sym (stages_are raw c is checked) in
    record {
      inbound = length-map (names_of raw.stages) _ ∙ names;
      outbound = length-map (names_of raw.stages) _ ∙ names;
    }

-- the forest of the network is that of the records
pub forest_in : (raw : RawNet) (c : Checked) (f : Forest) → IsNetworkOf raw c → IsChecked c → IsForest (length c.network.stages) c.network.arcs f → IsOnlyForest (length c.network.stages) c.network.arcs f → IsForestIn raw f
forest_in raw c f is checked forest only =
    let stages = stages_are raw c is checked in
    let arcs : c.network.arcs ≡ supply_arcs raw = ap (λ (x : Checked). x.network.arcs) is.made in
    record {
      forest = subst (λ (n : ℕ). IsForest n (supply_arcs raw) f) stages (subst (λ (xs : List SupplyArc). IsForest (length c.network.stages) xs f) arcs forest);
      only = subst (λ (n : ℕ). IsOnlyForest n (supply_arcs raw) f) stages (subst (λ (xs : List SupplyArc). IsOnlyForest (length c.network.stages) xs f) arcs only);
    }
