use Rattle.std.proofs.Common.{◌≡◌, ◌*◌, ℕ, List, None, Result, Ok, Err, length, arith, ap, sym, subst, ◌∙◌}
use Rattle.std.specs.Prelude.{IfOk}
use Rattle.service_model.specs.declared.list.NoMemory.{NoMemory}
use Rattle.stage_file.specs.declared.raw.Files.{Files}
use Rattle.stage_file.specs.Raw.{AreFiles}
use Rattle.network_check.specs.Refusals.{IsFirstRefusal}
use Rattle.trial_rows.specs.declared.drawn.TrialStage.{TrialStage}
use Rattle.trial_rows.specs.declared.drawn.TrialArc.{TrialArc}
use Rattle.trial_rows.specs.Trials.{trial_files}
use Rattle.gsm_gen.specs.declared.draws.Draws.{Draws}
use Rattle.gsm_gen.specs.Draws.{HasTaken}
use Rattle.gsm_gen.specs.Networks.{drawn_stages, tree_word, arcs_after}
use Rattle.gsm_gen.specs.Makes.{made_files, AreFew, AllowZero}
use Rattle.gsm_gen.proofs.TrialLaws.{length-drawn_stages}
use Rattle.gsm_gen.proofs.MadeFacts.{InRange, made_passes, made_feasible, made_countable, made_few, AreDrawn, made_value, made_ends}
use Rattle.gsm_gen.proofs.trial.make.Goals as goal

-- what holds of the files that are returned
abbrev Returned : (seed count extra horizon : ℕ) → Result Files NoMemory → Type 0
Returned seed count extra horizon result = record {
  value : IfOk result (λ files. files ≡ made_files seed count extra horizon);
  passes : IfOk result (λ files. IsFirstRefusal horizon files None);
  feasible : IfOk result (AllowZero horizon count);
  countable : IfOk result AreFiles;
  few : IfOk result AreFew;
}

-- where they are those of the stages and arcs that were drawn
returned : (seed count extra horizon : ℕ) (stages : List TrialStage) (arcs : List TrialArc) → InRange count extra horizon → AreDrawn seed count extra horizon stages arcs
    → (result : Result Files NoMemory) → IfOk result (λ files. files ≡ trial_files stages arcs) → Returned seed count extra horizon result
returned seed count extra horizon stages arcs range are (Err e) is = record { value = is; passes = is; feasible = is; countable = is; few = is }
returned seed count extra horizon stages arcs range are (Ok files) is =
    let value : files ≡ made_files seed count extra horizon = is ∙ made_value seed count extra horizon stages arcs are in
    let made = sym value in
    record {
      value = value;
      passes = subst (λ f. IsFirstRefusal horizon f None) made (made_passes seed count extra horizon range);
      feasible = subst (AllowZero horizon count) made (made_feasible seed count extra horizon range);
      countable = subst AreFiles made (made_countable seed count extra horizon range);
      few = subst AreFew made (made_few seed count extra horizon range);
    }

-- stages drawn by the first words, and arcs by those behind them
drawn : (draws : Draws) (seed count extra horizon : ℕ) (stages : List TrialStage) (arcs : List TrialArc) → stages ≡ drawn_stages seed horizon count
    → HasTaken draws seed (4 * count) → (HasTaken draws seed (tree_word stages) → arcs ≡ arcs_after seed stages extra) → AreDrawn seed count extra horizon stages arcs
drawn draws seed count extra horizon stages arcs are taken then_arcs =
    let behind : 4 * count ≡ tree_word stages = omega (arith, ap length are, length-drawn_stages seed horizon count) in
    record { stages_are = are; arcs_are = then_arcs (subst (HasTaken draws seed) behind taken) }

pub draw_arcs-requires : goal.draw_arcs-requires
draw_arcs-requires c =
    let stages = c.as_slice-stages.ensures ∙ c.in_ok-drawn.ensures.stages c.args.seed c.of_seed-draws.ensures in
    let long = ap length stages ∙ length-drawn_stages c.args.seed c.args.horizon c.args.stages in
    record { some = omega (arith, long, c.requires.some); few = omega (arith, long, c.requires.stages) }

pub files_of-requires : goal.files_of-requires
files_of-requires c =
    let seed = c.args.seed in
    let count = c.args.stages in
    let extra = c.args.extra in
    let horizon = c.args.horizon in
    let stages = c.as_slice-stages.result.now in
    let arcs = c.as_slice.result.now in
    let are = drawn c.draw_stages.new.draws seed count extra horizon stages arcs (c.as_slice-stages.ensures ∙ c.in_ok-drawn.ensures.stages seed c.of_seed-draws.ensures)
    (c.in_ok-drawn.ensures.taken seed c.of_seed-draws.ensures) (λ taken. c.as_slice.ensures ∙ c.in_ok-arcs.ensures seed taken) in
    let range : InRange count extra horizon = record { some = c.requires.some; few = c.requires.stages; pairs = c.requires.extra; short = c.requires.horizon } in
    record {
      few = omega (arith, ap length are.stages_are, length-drawn_stages seed horizon count, c.requires.stages);
      ends = made_ends seed count extra horizon stages arcs range are;
    }

pub returns : goal.returns
returns c =
    let seed = c.args.seed in
    let count = c.args.stages in
    let extra = c.args.extra in
    let horizon = c.args.horizon in
    let stages = c.as_slice-stages.result.now in
    let arcs = c.as_slice.result.now in
    let are = drawn c.draw_stages.new.draws seed count extra horizon stages arcs (c.as_slice-stages.ensures ∙ c.in_ok-drawn.ensures.stages seed c.of_seed-draws.ensures)
    (c.in_ok-drawn.ensures.taken seed c.of_seed-draws.ensures) (λ taken. c.as_slice.ensures ∙ c.in_ok-arcs.ensures seed taken) in
    let range : InRange count extra horizon = record { some = c.requires.some; few = c.requires.stages; pairs = c.requires.extra; short = c.requires.horizon } in
    returned seed count extra horizon stages arcs range are c.files_of.result c.files_of.ensures
