use Rattle.std.proofs.Common.{◌*◌, arith}
use Rattle.std.proofs.lemmas.Nat.{mul-le}
use Rattle.stage_file.specs.declared.limits.TheConstants.{MAX_EXCESS, MAX_QUANTITY}
use Rattle.demand_tables.proofs.AskedFacts.{squares_fit}
use Rattle.demand_tables.proofs.joined.pooled_at.Goals as goal

pub overflow_add-squares : goal.overflow_add-squares
overflow_add-squares c =
    let n = c.asked-asked.result in
    let square = mul-le n n (MAX_QUANTITY * MAX_EXCESS) (MAX_QUANTITY * MAX_EXCESS) c.asked-asked.ensures.small c.asked-asked.ensures.small in
    let sum = squares_fit c.args.lists.now c.args.arcs.now c.args.time c.arcs.arc-index c.requires.answered c.requires.within (omega arith) in
    omega (arith, sum, c.arcs.invariant, square)

pub root_up-requires : goal.root_up-requires
root_up-requires c =
    let sum = squares_fit c.args.lists.now c.args.arcs.now c.args.time c.arcs.arc-index c.requires.answered c.requires.within c.arcs.auto.arc-index-end in
    omega (arith, sum, c.arcs.invariant)
