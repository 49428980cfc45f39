-- The network of records, with what they say beside it.
use Rattle.std.specs.Prelude.{◌≡◌, ℕ, ◌*◌, ◌<◌, List, [], length, map, zip, slice_index, slice_index_or}
use Rattle.service_model.specs.declared.stage.Stage.{Stage}
use Rattle.service_model.specs.declared.stage.SupplyArc.{SupplyArc}
use Rattle.service_model.specs.Net.{Net, net_of, stage_at}
use Rattle.stage_file.specs.declared.stages.StageRow.{StageRow}
use Rattle.stage_file.specs.declared.raw.RawNet.{RawNet}
use Rattle.demand_tables.specs.Demand.{HasExcess}
use Rattle.demand_tables.specs.DemandFaults.{supply_arc}
use Rattle.network_check.specs.declared.checked.Checked.{Checked}

-- a stage with its excess demands: each time costs the unit cost times the excess demand
abbrev pub stage_with : StageRow → List ℕ → Stage
stage_with s excess = record {
  lead = s.lead;
  supply = s.supply;
  least = s.least;
  most = s.most;
  cost = map (λ x. s.unit * x) excess;
}

-- the stages of the network, each with its excess demands
abbrev pub stages_from : List StageRow → List (List ℕ) → List Stage
stages_from rows lists = map (λ p. stage_with p.0 p.1) (zip rows lists)

-- the arcs of the network
abbrev pub supply_arcs : RawNet → List SupplyArc
supply_arcs raw = map supply_arc raw.arcs

-- the network of records, given the excess demands of its stages
abbrev pub network_from : RawNet → List (List ℕ) → Net
network_from raw lists = net_of raw.horizon (stages_from raw.stages lists) (supply_arcs raw)

-- the same, with what the records say beside it
abbrev pub checked_from : RawNet → List (List ℕ) → Checked
checked_from raw lists = record {
  network = network_from raw lists;
  names = map (λ s. s.name) raw.stages;
  units = map (λ s. s.unit) raw.stages;
  excess = lists;
}

-- the network of records, whose costs are those of the stages' excess demands
pub record IsNetworkOf (raw : RawNet) (c : Checked) : Type 0 where
  pub excess : HasExcess raw c.excess
  pub made : c ≡ checked_from raw c.excess

-- the name of stage j
abbrev pub name_at : Checked → ℕ → List ℕ
name_at c j = slice_index_or c.names j []

-- the unit cost of stage j
abbrev pub unit_at : Checked → ℕ → ℕ
unit_at c j = slice_index c.units j

-- the excess demands of stage j
abbrev pub excess_at : Checked → ℕ → List ℕ
excess_at c j = slice_index_or c.excess j []

-- one entry for each stage, and each cost the unit cost times the excess demand
pub record IsChecked (c : Checked) : Type 0 where
  pub names : length c.names ≡ length c.network.stages
  pub units : length c.units ≡ length c.network.stages
  pub excess : length c.excess ≡ length c.network.stages
  pub costs : (j : ℕ) → j < length c.network.stages → (stage_at c.network j).cost ≡ map (λ x. unit_at c j * x) (excess_at c j)
