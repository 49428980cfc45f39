-- The shift of one stage.
use Rattle.std.specs.Prelude.{ℕ, ◌+◌, ◌-◌, ◌<◌, ◌≤◌, min, length, slice_set}
use Rattle.service_model.specs.declared.plan.Plan.{Plan}
use Rattle.service_model.specs.Net.{Net, stage_at}
use Rattle.service_model.specs.Plans.{inbound_at, outbound_at}
use Rattle.service_model.specs.Repairs.{latest_arrival}

-- no stage quotes more than it may
abbrev pub KeepsMost : Net → Plan → Type 0
KeepsMost n p = (j : ℕ) → j < length n.stages → outbound_at p j ≤ (stage_at n j).most

-- what stage j quotes where it waits so long: as much more than under plan q, but no more than it may
abbrev pub quoted_after : Net → Plan → ℕ → ℕ → ℕ
quoted_after n q j inbound = min (stage_at n j).most (outbound_at q j + (inbound - inbound_at q j))

-- plan p, but stage j waits for what its suppliers quote there, and quotes as much more than under plan q
abbrev pub with_shifted : Net → Plan → Plan → ℕ → Plan
with_shifted n q p j = record {
  inbound = slice_set p.inbound j (latest_arrival n.arcs p j (inbound_at q j));
  outbound = slice_set p.outbound j (quoted_after n q j (latest_arrival n.arcs p j (inbound_at q j)));
}
