use Rattle.std.proofs.Common.{◌≡◌, ◌+◌, ◌<◌, ◌≤◌, length, arith, rules}
use Rattle.service_model.specs.declared.limits.TheConstants.{MAX_PLAN_COST}
use Rattle.service_model.specs.Net.{stage_at}
use Rattle.service_model.specs.Plans.{inbound_at, outbound_at, stage_cost}
use Rattle.service_model.specs.Search.{sum_below}
use Rattle.service_model.proofs.SearchFacts.{sum_below_more}
use Rattle.service_model.proofs.CostFacts.{charge_below_top, allowed_within}
use Rattle.split_rules.proofs.relaxed.relaxed_cost.Goals as goal

pub overflow_add-total : goal.overflow_add-total
overflow_add-total c =
    let n = c.args.network.now in
    let p = c.args.plan.now in
    let within : c.stages.stage < length n.stages = search rules in
    let here : c.stage_cost-total.result ≡ stage_cost n p c.stages.stage = search rules in
    let all : sum_below (stage_cost n p) (c.stages.stage + 1) ≤ MAX_PLAN_COST =
    allowed_within n (stage_cost n p) c.stages-2.ensures.valid
    (λ j low. charge_below_top (stage_at n j).lead (stage_at n j).cost (inbound_at p j) (outbound_at p j) (c.requires.allowed j low))
    (c.stages.stage + 1) (omega arith) in
    omega (arith, here, all, sum_below_more (stage_cost n p) c.stages.stage, c.stages.invariant)
