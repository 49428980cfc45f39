use Rattle.std.proofs.Common.{arith}
use Rattle.stock_report.proofs.BreakFacts.{arc_place, stage_place}
use Rattle.stock_report.proofs.audit.push_names.Goals as goal

pub push_ends-requires-clause-within : goal.push_ends-requires-clause-within
push_ends-requires-clause-within c = arc_place c.args.checked.now.network c.args.plan.now c.args.broken c.requires.broken c.if-broken-eq-NOT_WAITED.true

pub push_name-requires : goal.push_name-requires
push_name-requires c = (let place = stage_place c.args.checked.now.network c.args.plan.now c.args.broken c.requires.broken c.if-broken-eq-NOT_WAITED.false in let names = c.requires.checked.names in omega (arith, place, names))
