use Rattle.std.proofs.Common.{Some}
use Rattle.end_rules.proofs.FoundFacts.{found_from}
use Rattle.end_rules.proofs.found.best_repair.Goals as goal

pub returns : goal.returns
returns c =
    let n = c.args.network.now in
    rw (c.keep_better-2.ensures, c.keep_better.ensures)
    (found_from n (Some c.args.plan.now) c.in_ok-best.best c.in_ok-second.second c.in_ok-third.third c.in_ok-best.ensures c.in_ok-second.ensures c.in_ok-third.ensures)
