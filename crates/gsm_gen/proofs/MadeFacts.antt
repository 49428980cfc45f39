-- What the files are that are made of a number.
use Rattle.std.proofs.Common.{◌≡◌, ◌<◌, ◌≤◌, ℕ, List, length, None, refl, arith, subst}
use Rattle.std.specs.List.{All}
use Rattle.std.proofs.lemmas.List.{length-map}
use Rattle.std.proofs.lemmas.List.Elements.{All-weaker}
use Rattle.service_model.specs.declared.limits.TheConstants.{MAX_STAGES, MAX_HORIZON}
use Rattle.service_model.specs.Plans.{Feasible}
use Rattle.stage_file.specs.Raw.{AreFiles}
use Rattle.network_check.specs.Refusals.{IsFirstRefusal}
use Rattle.trial_rows.specs.declared.drawn.TrialStage.{TrialStage}
use Rattle.trial_rows.specs.declared.drawn.TrialArc.{TrialArc}
use Rattle.trial_rows.specs.Trials.{ArcWithin, IsTrial, arc_row, trial_files}
use Rattle.trial_rows.specs.Laws.{zero_plan}
use Rattle.trial_rows.proofs.PassFacts.{passes_law}
use Rattle.trial_rows.proofs.ZeroFacts.{zero_plan_law}
use Rattle.trial_rows.proofs.FewFacts.{rows_law}
use Rattle.gsm_gen.specs.declared.limits.TheConstants.{MAX_EXTRA}
use Rattle.gsm_gen.specs.Networks.{drawn_stages, arcs_after}
use Rattle.gsm_gen.specs.Makes.{drawn_arcs, made_files, AreFew, AllowZero}
use Rattle.gsm_gen.proofs.TrialLaws.{drawn_trial, length-drawn_stages, few_arcs}

-- the numbers that files are made of are within their ranges
pub record InRange (count extra horizon : ℕ) : Type 0 where
  pub some : 1 ≤ count
  pub few : count ≤ MAX_STAGES
  pub pairs : extra ≤ MAX_EXTRA
  pub short : horizon ≤ MAX_HORIZON

-- then what is drawn is a trial network
pub made_trial : (seed count extra horizon : ℕ) → InRange count extra horizon → IsTrial horizon (drawn_stages seed horizon count) (drawn_arcs seed count extra horizon)
made_trial seed count extra horizon range = drawn_trial seed horizon count extra range.short range.some range.few range.pairs

-- so no rule fails on its files
pub made_passes : (seed count extra horizon : ℕ) → InRange count extra horizon → IsFirstRefusal horizon (made_files seed count extra horizon) None
unfolding made_files
made_passes seed count extra horizon range =
    passes_law horizon (drawn_stages seed horizon count) (drawn_arcs seed count extra horizon) (made_trial seed count extra horizon range)

-- the plan whose times are all 0 is feasible
pub made_feasible : (seed count extra horizon : ℕ) → InRange count extra horizon → AllowZero horizon count (made_files seed count extra horizon)
unfolding made_files
made_feasible seed count extra horizon range c network =
    let stages = drawn_stages seed horizon count in
    let feasible = zero_plan_law horizon stages (drawn_arcs seed count extra horizon) c (made_trial seed count extra horizon range) network in
    subst (λ n. Feasible c.network (zero_plan n)) (length-drawn_stages seed horizon count) feasible

-- rows and fields can be numbered
pub made_countable : (seed count extra horizon : ℕ) → InRange count extra horizon → AreFiles (made_files seed count extra horizon)
unfolding made_files
made_countable seed count extra horizon range =
    (rows_law horizon (drawn_stages seed horizon count) (drawn_arcs seed count extra horizon) (made_trial seed count extra horizon range)).countable

-- and there are few
pub made_few : (seed count extra horizon : ℕ) → InRange count extra horizon → AreFew (made_files seed count extra horizon)
unfolding made_files
made_few seed count extra horizon range =
    let stages = drawn_stages seed horizon count in
    let arcs = drawn_arcs seed count extra horizon in
    let rows = rows_law horizon stages arcs (made_trial seed count extra horizon range) in
    let few = few_arcs seed horizon count extra range.some range.few range.pairs in
    record { stages = rows.stage_rows; tables = rows.table_rows; arcs = omega (arith, few, length-map arcs arc_row) }

-- stages and arcs are those that are drawn
pub record AreDrawn (seed count extra horizon : ℕ) (stages : List TrialStage) (arcs : List TrialArc) : Type 0 where
  pub stages_are : stages ≡ drawn_stages seed horizon count
  pub arcs_are : arcs ≡ arcs_after seed stages extra

-- then their files are those that are made
pub made_value : (seed count extra horizon : ℕ) (stages : List TrialStage) (arcs : List TrialArc) → AreDrawn seed count extra horizon stages arcs
    → trial_files stages arcs ≡ made_files seed count extra horizon
unfolding made_files
made_value seed count extra horizon stages arcs are = rw (are.arcs_are, are.stages_are) refl

-- and each arc leaves a stage that there is
pub made_ends : (seed count extra horizon : ℕ) (stages : List TrialStage) (arcs : List TrialArc) → InRange count extra horizon
    → AreDrawn seed count extra horizon stages arcs → All (λ a. a.supplier < length stages) arcs
made_ends seed count extra horizon stages arcs range are =
    let drawn = drawn_stages seed horizon count in
    let within = (made_trial seed count extra horizon range).arcs_within in
    rw (are.arcs_are, are.stages_are) (All-weaker (ArcWithin drawn) (λ a. a.supplier < length drawn) (λ a one. one.supplier) (arcs_after seed drawn extra) within)
