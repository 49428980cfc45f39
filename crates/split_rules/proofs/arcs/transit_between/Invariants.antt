-- No arc behind joins the two stages.
use Rattle.std.proofs.Common.{ℕ, ◌<◌}
use Rattle.split_rules.proofs.TransitFacts.{Joins}
use Rattle.split_rules.proofs.arcs.transit_between.Given as goal

abbrev pub invariant-arcs : goal.invariant-arcs
invariant-arcs l = (b : ℕ) → b < l.a → ¬ Joins l.network.arcs l.supplier l.customer b
