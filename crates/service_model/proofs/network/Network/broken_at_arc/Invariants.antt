use Rattle.std.proofs.Common.{◌≡◌, None}
use Rattle.service_model.specs.Breaks.{arc_break}
use Rattle.service_model.specs.Search.{first_below}
use Rattle.service_model.proofs.network.Network.broken_at_arc.Given as goal

abbrev pub invariant-arcs : goal.invariant-arcs
invariant-arcs l = first_below (arc_break l.self l.plan) l.a ≡ None
