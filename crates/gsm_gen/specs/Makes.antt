-- The files that are made of a number.
use Rattle.std.specs.Prelude.{◌≡◌, ◌≤◌, ◌+◌, ℕ, List, length}
use Rattle.service_model.specs.declared.limits.TheConstants.{MAX_STAGES, MAX_ARCS}
use Rattle.service_model.specs.Plans.{Feasible}
use Rattle.stage_file.specs.declared.raw.Files.{Files}
use Rattle.stage_file.specs.Raw.{raw_of}
use Rattle.network_check.specs.declared.checked.Checked.{Checked}
use Rattle.network_check.specs.Checked.{IsNetworkOf}
use Rattle.trial_rows.specs.declared.drawn.TrialArc.{TrialArc}
use Rattle.trial_rows.specs.Trials.{trial_files}
use Rattle.trial_rows.specs.Laws.{zero_plan}
use Rattle.gsm_gen.specs.Networks.{drawn_stages, arcs_after}

-- the arcs of the trial network of a seed, with so many stages and pairs
abbrev pub drawn_arcs : ℕ → ℕ → ℕ → ℕ → List TrialArc
drawn_arcs seed count extra horizon = arcs_after seed (drawn_stages seed horizon count) extra

-- the files of that network
unfoldable pub made_files : ℕ → ℕ → ℕ → ℕ → Files
made_files seed count extra horizon = trial_files (drawn_stages seed horizon count) (drawn_arcs seed count extra horizon)

-- the files have few rows: the stage file at most one for each stage and its header, the arc file no more than a network has arcs, the table file none
pub record AreFew (files : Files) : Type 0 where
  pub stages : length files.stages ≤ MAX_STAGES + 1
  pub tables : length files.tables ≡ 0
  pub arcs : length files.arcs ≤ MAX_ARCS

-- the network of the files, of so many stages, allows the plan whose times are all 0
abbrev pub AllowZero : ℕ → ℕ → Files → Type 0
AllowZero horizon count files = (c : Checked) → IsNetworkOf (raw_of horizon files) c → Feasible c.network (zero_plan count)
