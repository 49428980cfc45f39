use Rattle.std.proofs.Common.{◌≡◌, length, Some, sym, rules}
use Rattle.service_model.specs.Breaks.{stage_break}
use Rattle.service_model.proofs.SearchFacts.{first_below_found}
use Rattle.service_model.proofs.network.Network.broken_at_stage.Goals as goal

pub returns-in-Some : goal.returns-in-Some
returns-in-Some c =
    let n = c.args.self.now in
    let p = c.args.plan.now in
    let here : stage_break n p c.stages.j ≡ Some c.in-Some.broken = search rules in
    sym (first_below_found (stage_break n p) (length n.stages) c.stages.j _ c.stages.invariant (search rules) here)
