-- The arc that a split names.
use Rattle.std.specs.Prelude.{◌≡◌, ℕ, ◌+◌, ◌<◌, List, Option, Some, None}
use Rattle.service_model.specs.declared.stage.SupplyArc.{SupplyArc}
use Rattle.service_model.specs.declared.plan.Plan.{Plan}
use Rattle.service_model.specs.declared.cert.Split.{Split}
use Rattle.service_model.specs.Net.{Net}
use Rattle.service_model.specs.Plans.{inbound_at, outbound_at}
use Rattle.service_model.specs.Tables.{transit_in, Supplies}

-- the transit of the arc from stage i to stage j, none where no arc leads so
abbrev pub IsTransit : List SupplyArc → ℕ → ℕ → Option ℕ → Type 0
IsTransit arcs i j None = ¬ Supplies arcs i j
IsTransit arcs i j (Some transit) = Supplies arcs i j × (transit ≡ transit_in arcs i j)

-- the split names an arc that the plan breaks
pub record Breaks (n : Net) (p : Plan) (s : Split) : Type 0 where
  pub arc : Supplies n.arcs s.supplier s.customer
  pub broken : inbound_at p s.customer < outbound_at p s.supplier + transit_in n.arcs s.supplier s.customer
