use Rattle.std.proofs.Common.{Some}
use Rattle.incumbent_repair.proofs.FoundFacts.{found_from}
use Rattle.incumbent_repair.proofs.ShiftFacts.{suppliers_first}
use Rattle.incumbent_repair.proofs.found.best_of.Goals as goal

pub shift-requires-clause-order : goal.shift-requires-clause-order
shift-requires-clause-order c = suppliers_first c.args.network.now c.args.order.now c.requires.order

pub returns : goal.returns
returns c =
    let n = c.args.network.now in
    rw (c.keep_better-2.ensures, c.keep_better.ensures)
    (found_from n (Some c.args.plan.now) c.in_ok-best.best c.in_ok-second.second c.in_ok-third.third c.in_ok-best.ensures c.in_ok-second.ensures c.in_ok-third.ensures)
