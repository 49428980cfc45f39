use Rattle.std.proofs.Common.{◌≡◌, ◌<◌, length, get_or, add-one, ap, ◌∙◌, arith, rules}
use Rattle.incumbent_repair.specs.Shifts.{with_shifted}
use Rattle.incumbent_repair.proofs.ShiftFacts.{shifted_more, shifted_all}
use Rattle.incumbent_repair.proofs.shifts.shifted_plan.Goals as goal

pub order-preserved : goal.order-preserved
order-preserved c =
    let n = c.args.network.now in
    let order = c.args.order.now in
    let k = c.order.k in
    let inside : k < length order = search rules in
    let stage : c.get.result.now ≡ get_or order k 0 = search rules in
    let shift = c.shift_stage.ensures ∙ ap (with_shifted n c.args.plan.now c.order.repair) stage in
    rw (add-one, shift) (shifted_more n c.args.plan.now c.order.repair order k c.inputs_of.ensures.valid c.requires.order inside c.order.invariant)

pub returns-clause-repair : goal.returns-clause-repair
returns-clause-repair c =
    shifted_all c.args.network.now c.args.plan.now c.order.repair c.args.order.now c.order.k c.requires.order (omega arith) c.order.invariant
