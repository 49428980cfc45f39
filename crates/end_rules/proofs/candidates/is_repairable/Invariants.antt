use Rattle.std.proofs.Common.{ℕ, ◌<◌, ◌≤◌}
use Rattle.service_model.specs.Net.{stage_at}
use Rattle.service_model.specs.Plans.{inbound_at, outbound_at}
use Rattle.end_rules.proofs.candidates.is_repairable.Given as goal

abbrev pub invariant-stages : goal.invariant-stages
invariant-stages l = (j : ℕ) → j < l.j → (inbound_at l.plan j ≤ l.network.horizon) × (outbound_at l.plan j ≤ (stage_at l.network j).most)
