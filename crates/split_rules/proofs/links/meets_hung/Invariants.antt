-- The plan meets the arcs behind that lead between tables.
use Rattle.std.proofs.Common.{ℕ, ◌<◌}
use Rattle.service_model.specs.Net.{arc_in}
use Rattle.service_model.specs.Plans.{Meets}
use Rattle.split_rules.specs.Links.{IsHung}
use Rattle.split_rules.proofs.links.meets_hung.Given as goal

abbrev pub invariant-arcs : goal.invariant-arcs
invariant-arcs l = (b : ℕ) → b < l.a → IsHung l.links (arc_in l.network.arcs b) → Meets l.plan (arc_in l.network.arcs b)
