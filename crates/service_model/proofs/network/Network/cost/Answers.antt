use Rattle.std.proofs.Common.{◌≡◌, ◌+◌, ◌<◌, ◌≤◌, length, arith, rules}
use Rattle.service_model.specs.declared.limits.TheConstants.{MAX_PLAN_COST}
use Rattle.service_model.specs.Plans.{stage_cost, cost_of}
use Rattle.service_model.specs.Search.{sum_below}
use Rattle.service_model.proofs.SearchFacts.{sum_below_more}
use Rattle.service_model.proofs.CostFacts.{costs_within, cost_within}
use Rattle.service_model.proofs.network.Network.cost.Goals as goal

pub overflow_add-total : goal.overflow_add-total
overflow_add-total c =
    let n = c.args.self.now in
    let p = c.args.plan.now in
    let valid = rw c.self.view_is at c.self.invariant.0 in
    let within : c.stages.j < length n.stages = search rules in
    let here : c.charge-total.result ≡ stage_cost n p c.stages.j = search rules in
    let all : sum_below (stage_cost n p) (c.stages.j + 1) ≤ MAX_PLAN_COST =
    costs_within n p valid c.requires (c.stages.j + 1) (omega arith) in
    omega (arith, here, all, sum_below_more (stage_cost n p) c.stages.j, c.stages.invariant)

pub returns-clause-small : goal.returns-clause-small
returns-clause-small c =
    let n = c.args.self.now in
    let p = c.args.plan.now in
    let valid = rw c.self.view_is at c.self.invariant.0 in
    let all : cost_of n p ≤ MAX_PLAN_COST = cost_within n p valid c.requires in
    let same : c.stages.total ≡ cost_of n p = search rules in
    omega (arith, all, same)
