use Rattle.std.proofs.Common.{◌≡◌, None}
use Rattle.service_model.specs.Breaks.{stage_break}
use Rattle.service_model.specs.Search.{first_below}
use Rattle.service_model.proofs.network.Network.broken_at_stage.Given as goal

abbrev pub invariant-stages : goal.invariant-stages
invariant-stages l = first_below (stage_break l.self l.plan) l.j ≡ None
