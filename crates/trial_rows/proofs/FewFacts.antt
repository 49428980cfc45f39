-- The rows of the files of a trial network are few, and short.
use Rattle.std.proofs.Common.{◌≡◌, ℕ, ◌^◌, ◌<◌, List, [], length, map, refl, arith}
use Rattle.std.specs.List.{range_with_len}
use Rattle.std.proofs.lemmas.List.{length-map}
use Rattle.std.proofs.lemmas.List.Elements.{All-cons, All-nil, All-map}
use Rattle.std.proofs.lemmas.List.FromFn.{length-map-range_with_len}
use Rattle.stage_file.specs.Raw.{AreFiles}
use Rattle.stage_file.specs.Records.{AreCountable}
use Rattle.trial_rows.specs.declared.drawn.TrialStage.{TrialStage}
use Rattle.trial_rows.specs.declared.drawn.TrialArc.{TrialArc}
use Rattle.trial_rows.specs.Trials.{stage_row, stage_header, arc_row, arc_header, trial_files}
use Rattle.trial_rows.specs.Laws.{RowsLaw}

abbrev IsShort : List (List ℕ) → Type 0
IsShort row = length row < 2 ^ 32

no_rows : AreCountable []
no_rows = record { few_rows = omega arith; short_rows = All-nil IsShort }

-- files of fewer than 2 ^ 31 stages and arcs can be numbered
pub are_files : (stages : List TrialStage) (arcs : List TrialArc) → length stages < 2 ^ 31 → length arcs < 2 ^ 31 → AreFiles (trial_files stages arcs)
are_files stages arcs few few_arcs =
    let stage_rows = map (stage_row stages arcs) (range_with_len 0 (length stages)) in
    let stage_count : length stage_rows ≡ length stages = length-map-range_with_len (stage_row stages arcs) 0 (length stages) in
    let arc_count : length (map arc_row arcs) ≡ length arcs = length-map arcs arc_row in
    record {
      stages = record {
        few_rows = omega (arith, stage_count, few);
        short_rows = All-cons IsShort stage_header stage_rows (omega arith) (All-map IsShort (stage_row stages arcs) (range_with_len 0 (length stages)) (λ k d inside. omega arith));
      };
      tables = no_rows;
      arcs = record {
        few_rows = omega (arith, arc_count, few_arcs);
        short_rows = All-cons IsShort arc_header (map arc_row arcs) (omega arith) (All-map IsShort arc_row arcs (λ k d inside. omega arith));
      };
    }

pub rows_law : RowsLaw
rows_law horizon stages arcs trial =
    let few = trial.few in
    let few_arcs = trial.few_arcs in
    let stage_rows = map (stage_row stages arcs) (range_with_len 0 (length stages)) in
    let stage_count : length stage_rows ≡ length stages = length-map-range_with_len (stage_row stages arcs) 0 (length stages) in
    let arc_count : length (map arc_row arcs) ≡ length arcs = length-map arcs arc_row in
    record {
      countable = are_files stages arcs (omega arith) (omega arith);
      stage_rows = omega (arith, stage_count, few);
      table_rows = refl;
      arc_rows = omega (arith, arc_count, few_arcs);
    }
