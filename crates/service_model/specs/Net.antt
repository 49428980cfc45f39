-- A network as contracts see it: a horizon, stages and arcs.
use Rattle.std.specs.Prelude.{ℕ, List, [], slice_index_or}
use Rattle.service_model.specs.declared.stage.Stage.{Stage}
use Rattle.service_model.specs.declared.stage.SupplyArc.{SupplyArc}

-- a network as contracts see it: the horizon, the stages and the arcs
pub record Net : Type 0 where
  pub horizon : ℕ
  pub stages : List Stage
  pub arcs : List SupplyArc

-- the network of a horizon, stages and arcs
abbrev pub net_of : ℕ → List Stage → List SupplyArc → Net
net_of horizon stages arcs = record { horizon = horizon; stages = stages; arcs = arcs }

-- what stands for a stage that there is not: each of its times is not allowed
abbrev pub no_stage : Stage
no_stage = record { lead = 0; supply = 0; least = 0; most = 0; cost = [] }

-- what stands for an arc that there is not
abbrev pub no_arc : SupplyArc
no_arc = record { supplier = 0; customer = 0; transit = 0 }

-- stage j of the network
abbrev pub stage_at : Net → ℕ → Stage
stage_at n j = slice_index_or n.stages j no_stage

-- arc a of a list
abbrev pub arc_in : List SupplyArc → ℕ → SupplyArc
arc_in arcs a = slice_index_or arcs a no_arc
