-- The network of records has one entry for each stage, and each cost is the unit cost times the excess demand.
use Rattle.std.proofs.Common.{◌≡◌, ℕ, ◌*◌, ◌<◌, List, length, map, sym, subst, ◌∙◌, ap, arith}
use Rattle.std.proofs.lemmas.List.{length-map, get_or-map}
use Rattle.service_model.specs.declared.stage.Stage.{Stage}
use Rattle.service_model.specs.Net.{stage_at, no_stage}
use Rattle.stage_file.specs.declared.raw.RawNet.{RawNet}
use Rattle.stage_file.specs.declared.stages.StageRow.{StageRow}
use Rattle.demand_tables.specs.Demand.{row_at, no_row}
use Rattle.network_check.specs.declared.checked.Checked.{Checked}
use Rattle.network_check.specs.Checked.{network_from, checked_from, unit_at, excess_at, IsChecked}
use Rattle.network_check.proofs.StageFacts.{length-stages_from, get_or-stages_from}

costs_are : (raw : RawNet) (lists : List (List ℕ)) (j : ℕ) → length lists ≡ length raw.stages → j < length raw.stages
    → (stage_at (network_from raw lists) j).cost ≡ map (λ x. unit_at (checked_from raw lists) j * x) (excess_at (checked_from raw lists) j)
costs_are raw lists j long within =
    let stage = get_or-stages_from raw.stages lists j no_stage long within in
    let unit : unit_at (checked_from raw lists) j ≡ (row_at raw j).unit = get_or-map (λ (s : StageRow). s.unit) raw.stages j no_row 0 within in
    rw unit (ap (λ (x : Stage). x.cost) stage)

checked_is : (raw : RawNet) (lists : List (List ℕ)) → length lists ≡ length raw.stages → IsChecked (checked_from raw lists)
checked_is raw lists long =
    let stages = length-stages_from raw.stages lists long in
    record {
      names = length-map raw.stages (λ (s : StageRow). s.name) ∙ sym stages;
      units = length-map raw.stages (λ (s : StageRow). s.unit) ∙ sym stages;
      excess = long ∙ sym stages;
      costs = λ j within. costs_are raw lists j long (omega (arith, within, stages));
    }

pub same_is_checked : (raw : RawNet) (lists : List (List ℕ)) (c : Checked) → length lists ≡ length raw.stages → c ≡ checked_from raw lists → IsChecked c
same_is_checked raw lists c long same = subst (λ (x : Checked). IsChecked x) (sym same) (checked_is raw lists long)
