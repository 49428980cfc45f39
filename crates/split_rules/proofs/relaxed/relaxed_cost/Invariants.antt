-- The cost of the stages behind.
use Rattle.std.proofs.Common.{◌≡◌}
use Rattle.service_model.specs.Plans.{stage_cost}
use Rattle.service_model.specs.Search.{sum_below}
use Rattle.split_rules.proofs.relaxed.relaxed_cost.Given as goal

abbrev pub invariant-stages : goal.invariant-stages
invariant-stages l = l.total ≡ sum_below (stage_cost l.network l.plan) l.stage
