-- No rule on the stage file of a trial fails, and what its records are.
use Rattle.std.proofs.Common.{◌≡◌, ℕ, ◌+◌, ◌^◌, ◌<◌, ◌==◌, Bool, false, List, [], ◌∷◌, length, take, get_or, map, All, Some, None, refl, sym, ap, ◌∙◌, subst, arith}
use Rattle.std.specs.Prelude.{codes}
use Rattle.std.specs.List.{range_with_len, list_any}
use Rattle.std.specs.Str.{bytes_eq}
use Rattle.std.proofs.lemmas.Bool.{ne_eqb}
use Rattle.std.proofs.lemmas.List.{length-map, length-take, get_or-take, get_or-map}
use Rattle.std.proofs.lemmas.List.Elements.{All-from_get_or}
use Rattle.std.proofs.lemmas.List.Folds.{list_any_none}
use Rattle.std.proofs.lemmas.List.FromFn.{length-map-range_with_len, get_or-map-range_with_len}
use Rattle.service_model.specs.declared.limits.TheConstants.{MAX_TIME, MAX_STAGES}
use Rattle.service_model.specs.Search.{first_of, first_below}
use Rattle.service_model.proofs.SearchFacts.{below_none}
use Rattle.stage_file.specs.declared.rules.TheConstants.{NO_STAGES}
use Rattle.stage_file.specs.declared.fault.FileKind.TheVariants.{Stages}
use Rattle.stage_file.specs.declared.stages.StageRow.{StageRow}
use Rattle.stage_file.specs.declared.stages.Bound.TheVariants.{Normal}
use Rattle.stage_file.specs.declared.limits.TheConstants.{MAX_UNIT}
use Rattle.stage_file.specs.Records.{Numbered, no_record, records_of, below_header, record_at, numbered}
use Rattle.stage_file.specs.Seen.{record_of}
use Rattle.stage_file.specs.Faults.{fails_if, header_fault}
use Rattle.stage_file.specs.Stages.{is_name_of, stage_rules, stage_fault_at, stage_file_fault}
use Rattle.stage_file.specs.StageRecords.{stage_row_of, stage_rows_of}
use Rattle.stage_file.specs.Arcs.{names_of, place_of}
use Rattle.stage_file.proofs.ListFacts.{first_place}
use Rattle.demand_tables.specs.Demand.{no_row}
use Rattle.trial_rows.specs.declared.drawn.TrialStage.{TrialStage}
use Rattle.trial_rows.specs.declared.drawn.TrialArc.{TrialArc}
use Rattle.trial_rows.specs.Trials.{IsTrial, name_of, no_stage, stage_of, is_supplier, row_of_stage, stage_row, stage_header}
use Rattle.trial_rows.proofs.NumberFacts.{number_is, empty_number}
use Rattle.trial_rows.proofs.RowFacts.{IsFull, below_is, header_is, length_numbered, numbered_at}
use Rattle.trial_rows.proofs.RuleFacts.{first_none, holds, header_holds}
use Rattle.trial_rows.proofs.TextFacts.{word_texts, names_apart, name_equal, bound_is}
use Rattle.trial_rows.proofs.StageFacts.{Fits, fits, row_full, header_full, stage_holds}

-- what the records of a stage file say of a stage
pub record IsRowOf (j : ℕ) (s : TrialStage) (row : StageRow) : Type 0 where
  pub name : row.name ≡ name_of j
  pub lead : row.lead ≡ s.lead
  pub supply : row.supply ≡ 0
  pub least : row.least ≡ 0
  pub bound : row.bound ≡ Normal s.factor
  pub unit : row.unit ≡ s.unit

row_is : (horizon j : ℕ) (s : TrialStage) (supplies : Bool) → Fits horizon s → IsRowOf j s (stage_row_of horizon (record_of (2 + j) (row_of_stage j s supplies)))
unfolding stage_row_of
row_is horizon j s supplies fit =
    let lead = fit.lead in
    let factor = fit.factor in
    let unit = fit.unit in
    record {
      name = refl;
      lead = number_is 0 MAX_TIME s.lead lead (omega arith);
      supply = empty_number 0 MAX_TIME;
      least = empty_number 0 MAX_TIME;
      bound = bound_is s.factor (omega arith);
      unit = number_is 0 MAX_UNIT s.unit (omega arith) (omega arith);
    }

module _ (horizon : ℕ) (stages : List TrialStage) (arcs : List TrialArc) (trial : IsTrial horizon stages arcs) where
  abbrev rows : List (List (List ℕ))
  rows = map (stage_row stages arcs) (range_with_len 0 (length stages))

  abbrev records : List Numbered
  records = numbered 2 rows

  long : length rows ≡ length stages
  long = length-map-range_with_len (stage_row stages arcs) 0 (length stages)

  few : (j : ℕ) → j < length stages → j < 2 ^ 32
  few j inside = omega (arith, inside, trial.few)

  fit : (j : ℕ) → j < length stages → Fits horizon (stage_of stages j)
  fit j inside = fits horizon (stage_of stages j) (trial.within j no_stage inside)

  row_at : (j : ℕ) → j < length stages → get_or rows j [] ≡ stage_row stages arcs j
  row_at j inside = get_or-map-range_with_len (stage_row stages arcs) 0 (length stages) j j [] inside (omega arith)

  all_full : All IsFull rows
  all_full = All-from_get_or IsFull rows [] (λ j inside.
      let low : j < length stages = omega (arith, inside, long) in
      subst (λ (row : List (List ℕ)). IsFull row) (sym (row_at j low)) (row_full j (stage_of stages j) (is_supplier arcs j) (fit j low).unit))

  pub stage_count : length records ≡ length stages
  stage_count = length_numbered 2 rows all_full ∙ long

  pub record_is : (j : ℕ) → j < length stages → record_at records j ≡ record_of (2 + j) (stage_row stages arcs j)
  record_is j inside = numbered_at 2 rows j all_full (omega (arith, inside, long)) ∙ ap (λ (row : List (List ℕ)). record_of (2 + j) row) (row_at j inside)

  -- an earlier record has another name
  new_name : (k : ℕ) → k < length stages → list_any (is_name_of (name_of k)) (take k records) ≡ false
  unfolding is_name_of
  new_name k inside =
      list_any_none (is_name_of (name_of k)) (take k records) (
      All-from_get_or (λ r. is_name_of (name_of k) r ≡ false) (take k records) no_record (λ i low.
      let less : i < k = omega (arith, low, length-take k records) in
      let there : get_or (take k records) i no_record ≡ record_of (2 + i) (stage_row stages arcs i) = get_or-take k records i no_record less ∙ record_is i (omega (arith, less, inside)) in
      subst (λ (r : Numbered). is_name_of (name_of k) r ≡ false) (sym there) (names_apart k i (few k inside) (few i (omega (arith, less, inside))) (λ same. omega (arith, same, less)))))

  each_holds : (k : ℕ) → k < length records → stage_fault_at horizon records k ≡ None
  each_holds k inside =
      let low : k < length stages = omega (arith, inside, stage_count) in
      let before : length (take k records) < MAX_STAGES = omega (arith, length-take k records, inside, stage_count, trial.few) in
      let hold = stage_holds horizon k (stage_of stages k) (is_supplier arcs k) (few k low) (fit k low) (take k records) before (new_name k low) in
      ap (λ (r : Numbered). first_of (stage_rules horizon (take k records) r)) (record_is k low) ∙ hold

  -- no rule on the stage file fails
  pub stage_file_holds : stage_file_fault horizon (stage_header ∷ rows) ≡ None
  stage_file_holds =
      let below : below_header (records_of (stage_header ∷ rows)) ≡ records = below_is stage_header rows header_full in
      let header : header_fault Stages (codes "stage") (records_of (stage_header ∷ rows)) ≡ None = header_is Stages (codes "stage") stage_header rows header_full ∙ header_holds Stages (codes "stage") 1 stage_header (word_texts stage_header refl) refl in
      let some : (length records == 0) ≡ false = ne_eqb (length records) 0 (λ none. omega (arith, none, stage_count, trial.some)) in
      rw below (first_none (header_fault Stages (codes "stage") (records_of (stage_header ∷ rows)) ∷ first_below (stage_fault_at horizon records) (length records) ∷ fails_if Stages 0 NO_STAGES 0 (length records == 0) ∷ []) (
        header,
        (
          below_none (stage_fault_at horizon records) (length records) each_holds,
          (
            holds Stages 0 NO_STAGES 0 (length records == 0) some,
            tt,
          ),
        ),
      ))

  -- the stages that are read
  pub read_count : length (stage_rows_of horizon (stage_header ∷ rows)) ≡ length stages
  read_count = rw (below_is stage_header rows header_full) (length-map records (stage_row_of horizon) ∙ stage_count)

  pub read_is : (j : ℕ) → j < length stages → IsRowOf j (stage_of stages j) (get_or (stage_rows_of horizon (stage_header ∷ rows)) j no_row)
  read_is j inside =
      let at : get_or (map (stage_row_of horizon) records) j no_row ≡ stage_row_of horizon (record_of (2 + j) (stage_row stages arcs j)) =
      get_or-map (stage_row_of horizon) records j no_record no_row (omega (arith, inside, stage_count)) ∙ ap (stage_row_of horizon) (record_is j inside) in
      let one : IsRowOf j (stage_of stages j) (get_or (map (stage_row_of horizon) records) j no_row) = subst (λ (row : StageRow). IsRowOf j (stage_of stages j) row) (sym at) (row_is horizon j (stage_of stages j) (is_supplier arcs j) (fit j inside)) in
      rw (below_is stage_header rows header_full) one

  abbrev names : List (List ℕ)
  names = names_of (stage_rows_of horizon (stage_header ∷ rows))

  name_count : length names ≡ length stages
  name_count = length-map (stage_rows_of horizon (stage_header ∷ rows)) (λ (s : StageRow). s.name) ∙ read_count

  name_is : (j : ℕ) → j < length stages → get_or names j [] ≡ name_of j
  name_is j inside = get_or-map (λ (s : StageRow). s.name) (stage_rows_of horizon (stage_header ∷ rows)) j no_row [] (omega (arith, inside, read_count)) ∙ (read_is j inside).name

  -- a stage is found by its name
  pub place_is : (j : ℕ) → j < length stages → place_of names (name_of j) ≡ Some j
  place_is j inside =
      first_place (bytes_eq (name_of j)) names j [] (omega (arith, inside, name_count))
      (All-from_get_or (λ name. bytes_eq (name_of j) name ≡ false) (take j names) [] (λ i low.
      let less : i < j = omega (arith, low, length-take j names) in
      let there : get_or (take j names) i [] ≡ name_of i = get_or-take j names i [] less ∙ name_is i (omega (arith, less, inside)) in
      rw there (names_apart j i (few j inside) (few i (omega (arith, less, inside))) (λ same. omega (arith, same, less)))))
      (rw (name_is j inside) (name_equal j))
