use Rattle.std.proofs.Common.{arith}
use Rattle.demand_tables.proofs.AskedFacts.{sum_fits}
use Rattle.demand_tables.proofs.joined.sum_at.Goals as goal

pub overflow_add-sum : goal.overflow_add-sum
overflow_add-sum c =
    let sum = sum_fits c.args.lists.now c.args.arcs.now c.args.time c.arcs.arc-index c.requires.answered c.requires.within (omega arith) in
    omega (arith, sum, c.arcs.invariant, c.asked-sum.ensures.small)
