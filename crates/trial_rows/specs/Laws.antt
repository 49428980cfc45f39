-- What the files of a trial network are.
use Rattle.std.specs.Prelude.{◌≡◌, ℕ, ◌+◌, ◌≤◌, List, length, replicate, None}
use Rattle.service_model.specs.declared.limits.TheConstants.{MAX_STAGES, MAX_ARCS}
use Rattle.service_model.specs.declared.plan.Plan.{Plan}
use Rattle.service_model.specs.Plans.{Feasible}
use Rattle.stage_file.specs.Raw.{AreFiles, raw_of}
use Rattle.network_check.specs.declared.checked.Checked.{Checked}
use Rattle.network_check.specs.Checked.{IsNetworkOf}
use Rattle.network_check.specs.Refusals.{IsFirstRefusal}
use Rattle.trial_rows.specs.declared.drawn.TrialStage.{TrialStage}
use Rattle.trial_rows.specs.declared.drawn.TrialArc.{TrialArc}
use Rattle.trial_rows.specs.Trials.{IsTrial, trial_files}

-- no rule fails on the files of a trial network
abbrev pub PassesLaw : Type 0
PassesLaw = (horizon : ℕ) (stages : List TrialStage) (arcs : List TrialArc) → IsTrial horizon stages arcs
    → IsFirstRefusal horizon (trial_files stages arcs) None

-- the plan that gives each stage the times 0
abbrev pub zero_plan : ℕ → Plan
zero_plan stages = record { inbound = replicate stages 0; outbound = replicate stages 0 }

-- the network of the files of a trial network allows the plan whose times are all 0
abbrev pub ZeroPlanLaw : Type 0
ZeroPlanLaw = (horizon : ℕ) (stages : List TrialStage) (arcs : List TrialArc) (c : Checked) → IsTrial horizon stages arcs
    → IsNetworkOf (raw_of horizon (trial_files stages arcs)) c → Feasible c.network (zero_plan (length stages))

-- the rows of the files of a trial network are few
pub record AreFewRows (stages : List TrialStage) (arcs : List TrialArc) : Type 0 where
  pub countable : AreFiles (trial_files stages arcs)
  pub stage_rows : length (trial_files stages arcs).stages ≤ MAX_STAGES + 1
  pub table_rows : length (trial_files stages arcs).tables ≡ 0
  pub arc_rows : length (trial_files stages arcs).arcs ≤ MAX_ARCS + 1

-- each trial network has few rows
abbrev pub RowsLaw : Type 0
RowsLaw = (horizon : ℕ) (stages : List TrialStage) (arcs : List TrialArc) → IsTrial horizon stages arcs → AreFewRows stages arcs
