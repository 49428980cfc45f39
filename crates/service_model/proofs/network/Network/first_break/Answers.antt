use Rattle.std.proofs.Common.{rules}
use Rattle.service_model.proofs.PlanFacts.{feasible_if_none, infeasible_if_some}
use Rattle.service_model.proofs.network.Network.first_break.Goals as goal

pub returns-clause-none : goal.returns-clause-none
returns-clause-none c = feasible_if_none c.args.self.now c.args.plan.now _ c.requires (search rules)

pub returns-clause-some : goal.returns-clause-some
returns-clause-some c = infeasible_if_some c.args.self.now c.args.plan.now _ (search rules)
