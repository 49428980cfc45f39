-- No rule fails on the files of a trial network.
use Rattle.std.proofs.Common.{◌≡◌, ℕ, ◌<◌, List, [], ◌∷◌, length, get_or, map, Option, Some, None, refl, sym, ap, ◌∙◌, subst, arith}
use Rattle.std.specs.Prelude.{MatchOption}
use Rattle.std.proofs.lemmas.List.{length-map, get_or-map}
use Rattle.service_model.specs.declared.stage.SupplyArc.{SupplyArc}
use Rattle.service_model.specs.Net.{arc_in, no_arc}
use Rattle.service_model.specs.Walks.{Leads, NoCycle}
use Rattle.service_model.specs.Customers.{HasEnds}
use Rattle.stage_file.specs.declared.arcs.ArcRow.{ArcRow}
use Rattle.stage_file.specs.declared.fault.FileFault.{FileFault}
use Rattle.stage_file.specs.declared.raw.RawNet.{RawNet}
use Rattle.stage_file.specs.Records.{numbered}
use Rattle.stage_file.specs.Stages.{stage_file_fault}
use Rattle.stage_file.specs.StageRecords.{stage_rows_of}
use Rattle.stage_file.specs.Tables.{table_file_fault}
use Rattle.stage_file.specs.Arcs.{names_of, place_of, arc_file_fault}
use Rattle.stage_file.specs.Raw.{raw_fault, raw_of}
use Rattle.demand_tables.specs.DemandFaults.{supply_arc, turned, IsDemandOrder}
use Rattle.network_check.specs.Checked.{supply_arcs}
use Rattle.network_check.specs.Refusals.{IsFirstTogether, IsFirstRefusal}
use Rattle.trial_rows.specs.declared.drawn.TrialStage.{TrialStage}
use Rattle.trial_rows.specs.declared.drawn.TrialArc.{TrialArc}
use Rattle.trial_rows.specs.Trials.{ComesBefore, IsTrial, name_of, stage_of, no_stage, trial_files}
use Rattle.trial_rows.specs.Laws.{PassesLaw}
use Rattle.trial_rows.proofs.ArcFacts.{IsRowOfArc, no_arc as no_trial_arc, arc_of, arc_file_holds, read_arc_count, read_arc}
use Rattle.trial_rows.proofs.BeforeFacts.{before_apart, before_more, one_before}
use Rattle.trial_rows.proofs.DemandFacts.{AreNormal, demand_holds}
use Rattle.trial_rows.proofs.OrderFacts.{IsOrder, acyclic, some_order}
use Rattle.trial_rows.proofs.RuleFacts.{first_none}
use Rattle.trial_rows.proofs.StageFileFacts.{stage_file_holds, read_count, read_is, place_is}

-- a table file without rows
no_tables : table_file_fault [] ≡ None
unfolding numbered
no_tables = refl

-- the order of stages, and the same order backwards
forwards : (stages : List TrialStage) → IsOrder (ComesBefore stages)
forwards stages = record {
  never = λ i before. before_apart stages i i before refl;
  more = before_more stages;
  one = one_before stages;
}

backwards : (stages : List TrialStage) → IsOrder (λ i j. ComesBefore stages j i)
backwards stages = record {
  never = λ i before. before_apart stages i i before refl;
  more = λ i j k first second. before_more stages k j i second first;
  one = λ i j apart. one_before stages j i (λ same. apart (sym same));
}

-- what stands for the record of an arc that there is not
abbrev pub no_row_of_arc : ArcRow
no_row_of_arc = record { supplier = 0; customer = 0; quantity = 0; transit = 0; row = 0 }

module _ (horizon : ℕ) (stages : List TrialStage) (arcs : List TrialArc) (trial : IsTrial horizon stages arcs) where
  abbrev raw : RawNet
  raw = raw_of horizon (trial_files stages arcs)

  abbrev names : List (List ℕ)
  names = names_of (stage_rows_of horizon (trial_files stages arcs).stages)

  places : (j : ℕ) → j < length stages → place_of names (name_of j) ≡ Some j
  places = place_is horizon stages arcs trial

  -- no rule on one file fails
  pub files_hold : raw_fault horizon (trial_files stages arcs) ≡ None
  files_hold =
      first_none (stage_file_fault horizon (trial_files stages arcs).stages ∷ table_file_fault [] ∷ arc_file_fault names (trial_files stages arcs).arcs ∷ []) (
        stage_file_holds horizon stages arcs trial,
        (
          no_tables,
          (
            arc_file_holds horizon stages arcs names trial places,
            tt,
          ),
        ),
      )

  pub stages_read : length raw.stages ≡ length stages
  stages_read = read_count horizon stages arcs trial

  pub arcs_read : length raw.arcs ≡ length arcs
  arcs_read = read_arc_count horizon stages arcs names trial places

  pub arc_is : (k : ℕ) (d : ArcRow) → k < length arcs → IsRowOfArc (arc_of arcs k) (get_or raw.arcs k d)
  arc_is = read_arc horizon stages arcs names trial places

  -- an arc that is read leads up
  leads_up : (i j : ℕ) → Leads (map supply_arc raw.arcs) i j → ComesBefore stages i j
  leads_up i j (k, low, from, to) =
      let inside : k < length raw.arcs = omega (arith, low, length-map raw.arcs supply_arc) in
      let there : k < length arcs = omega (arith, inside, arcs_read) in
      let row = get_or raw.arcs k no_row_of_arc in
      let at : arc_in (map supply_arc raw.arcs) k ≡ supply_arc row = get_or-map supply_arc raw.arcs k no_row_of_arc no_arc inside in
      let is = arc_is k no_row_of_arc there in
      let supplier : (arc_of arcs k).supplier ≡ i = sym is.supplier ∙ sym (ap (λ (a : SupplyArc). a.supplier) at) ∙ from in
      let customer : (arc_of arcs k).customer ≡ j = sym is.customer ∙ sym (ap (λ (a : SupplyArc). a.customer) at) ∙ to in
      let before = (trial.arcs_within k no_trial_arc there).before in
      subst (λ (x : ℕ). ComesBefore stages i x) customer (subst (λ (x : ℕ). ComesBefore stages x (arc_of arcs k).customer) supplier before)

  -- and turned round it leads down
  leads_down : (i j : ℕ) → Leads (map turned raw.arcs) i j → ComesBefore stages j i
  leads_down i j (k, low, from, to) =
      let inside : k < length raw.arcs = omega (arith, low, length-map raw.arcs turned) in
      let there : k < length arcs = omega (arith, inside, arcs_read) in
      let row = get_or raw.arcs k no_row_of_arc in
      let at : arc_in (map turned raw.arcs) k ≡ turned row = get_or-map turned raw.arcs k no_row_of_arc no_arc inside in
      let is = arc_is k no_row_of_arc there in
      let customer : (arc_of arcs k).customer ≡ i = sym is.customer ∙ sym (ap (λ (a : SupplyArc). a.supplier) at) ∙ from in
      let supplier : (arc_of arcs k).supplier ≡ j = sym is.supplier ∙ sym (ap (λ (a : SupplyArc). a.customer) at) ∙ to in
      let before = (trial.arcs_within k no_trial_arc there).before in
      subst (λ (x : ℕ). ComesBefore stages j x) customer (subst (λ (x : ℕ). ComesBefore stages x (arc_of arcs k).customer) supplier before)

  turned_ends : HasEnds (length raw.stages) (map turned raw.arcs)
  turned_ends k d low =
      let inside : k < length raw.arcs = omega (arith, low, length-map raw.arcs turned) in
      let there : k < length arcs = omega (arith, inside, arcs_read) in
      let is = arc_is k no_row_of_arc there in
      let within = trial.arcs_within k no_trial_arc there in
      rw (get_or-map turned raw.arcs k no_row_of_arc d inside)
      (omega (arith, is.customer, within.customer, stages_read), omega (arith, is.supplier, within.supplier, stages_read))

  no_cycle : NoCycle (length raw.stages) (supply_arcs raw)
  no_cycle = acyclic (length raw.stages) (supply_arcs raw) (ComesBefore stages) (forwards stages) leads_up

  sorted : (order : List ℕ) × IsDemandOrder raw order
  sorted = some_order (length raw.stages) (map turned raw.arcs) (λ i j. ComesBefore stages j i) (backwards stages) leads_down turned_ends

  -- each bound is that of the stage
  pub normal : AreNormal raw
  normal j inside =
      let low : j < length stages = omega (arith, inside, stages_read) in
      ((stage_of stages j).factor, (trial.within j no_stage low).factor, (read_is horizon stages arcs trial j low).bound)

  together : IsFirstTogether raw None
  together = (None, no_cycle, demand_holds raw (omega (arith, trial.horizon_within)) normal sorted.0 sorted.1)

  pub passed : IsFirstRefusal horizon (trial_files stages arcs) None
  passed = subst (λ (o : Option FileFault). MatchOption o (IsFirstTogether raw None) (λ f. None ≡ Some f)) (sym files_hold) together

pub passes_law : PassesLaw
passes_law = passed
