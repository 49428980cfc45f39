-- The next stage's table may be filled, and the pool then holds it.
use Rattle.std.proofs.Common.{◌≡◌, ◌+◌, ◌<◌, ◌≤◌, ℕ, List, length, get_or, set, ap, sym, subst, arith}
use Rattle.tree_order.proofs.ForestLaws.{order_each}
use Rattle.arc_relax.specs.StageTables.{AreMade, IsWantedOf}
use Rattle.arc_relax.proofs.MadeFacts.{next_wanted, next_made, order_long, grown_so_far, grown_by_one, on_error}
use Rattle.arc_relax.proofs.tables.numbers_of.Goals as goal

pub wanted_of-requires-clause-stage : goal.wanted_of-requires-clause-stage
wanted_of-requires-clause-stage g c =
    let x = c.args.node.now in
    subst (λ (js : List ℕ). get_or js c.stages.stage-index 0 < length x.network.now.stages) (sym c.as_slice-stage-items.ensures)
    ((order_each (length x.network.now.stages) x.network.now.arcs x.forest.now c.requires.node.forest).low c.stages.stage-index 0
    (omega (arith, c.stages-test.true, ap length c.as_slice-stage-items.ensures)))

pub find_or_fill-requires-clause-wanted : goal.find_or_fill-requires-clause-wanted
find_or_fill-requires-clause-wanted g c =
    let x = c.args.node.now in
    let k = c.stages.stage-index in
    let wanted = c.in_ok-wanted.wanted in
    let numbers = c.stages.numbers.items in
    next_wanted x.network.now x.range.now x.forest.now c.args.pool.now c.stages.pool c.args.steps.now c.stages.steps numbers k wanted
    c.requires.node.forest c.requires.node.range c.stages.invariant
    (omega (arith, c.stages-test.true, ap length c.as_slice-stage-items.ensures))
    (subst (λ (js : List ℕ). IsWantedOf x.network.now x.range.now x.forest.now numbers (get_or js k 0) wanted) c.as_slice-stage-items.ensures
    (subst (λ (ks : List ℕ). IsWantedOf x.network.now x.range.now x.forest.now ks (get_or c.as_slice-stage-items.result.now k 0) wanted) c.deref.ensures.value c.in_ok-wanted.ensures))

pub find_or_fill-requires-clause-many : goal.find_or_fill-requires-clause-many
find_or_fill-requires-clause-many g c =
    let x = c.args.node.now in
    omega (arith, c.stages.invariant.few, c.stages-test.true, ap length c.as_slice-stage-items.ensures, order_long x.network.now x.forest.now c.requires.node.forest, c.requires.many)

pub find_or_fill-requires-clause-room : goal.find_or_fill-requires-clause-room
find_or_fill-requires-clause-room g c =
    let x = c.args.node.now in
    omega (arith, c.stages.invariant.few, c.stages.invariant.steps, c.stages-test.true, ap length c.as_slice-stage-items.ensures, order_long x.network.now x.forest.now c.requires.node.forest, c.requires.room)

pub stages-preserved : goal.stages-preserved
stages-preserved g c =
    let x = c.args.node.now in
    let k = c.stages.stage-index in
    let wanted = c.in_ok-wanted.wanted in
    let numbers = c.stages.numbers.items in
    let id = c.in_ok-id.id in
    subst (λ (js : List ℕ). AreMade x.network.now x.range.now x.forest.now c.args.pool.now c.find_or_fill.new.self c.args.steps.now c.find_or_fill.new.steps (set numbers (get_or js k 0) id) (k + 1)) (sym c.as_slice-stage-items.ensures)
    (next_made x.network.now x.range.now x.forest.now c.args.pool.now c.stages.pool c.find_or_fill.new.self c.args.steps.now c.stages.steps c.find_or_fill.new.steps numbers k id wanted
    c.requires.node.forest c.stages.invariant
    (omega (arith, c.stages-test.true, ap length c.as_slice-stage-items.ensures))
    (subst (λ (js : List ℕ). IsWantedOf x.network.now x.range.now x.forest.now numbers (get_or js k 0) wanted) c.as_slice-stage-items.ensures
    (subst (λ (ks : List ℕ). IsWantedOf x.network.now x.range.now x.forest.now ks (get_or c.as_slice-stage-items.result.now k 0) wanted) c.deref.ensures.value c.in_ok-wanted.ensures))
    c.in_ok-id.ensures.ok)

pub returns-clause-ok : goal.returns-clause-ok
returns-clause-ok g c =
    let x = c.args.node.now in
    let all : c.stages.stage-index ≡ length x.network.now.stages = omega (arith, c.stages-test.false, c.stages.auto.stage-index-end, ap length c.as_slice-stage-items.ensures, order_long x.network.now x.forest.now c.requires.node.forest) in
    subst (AreMade x.network.now x.range.now x.forest.now c.args.pool.now c.stages.pool c.args.steps.now c.stages.steps c.stages.numbers.items) all c.stages.invariant

pub returns-in_err-wanted-clause-err : goal.returns-in_err-wanted-clause-err
returns-in_err-wanted-clause-err g c =
    let x = c.args.node.now in
    let low : c.stages.stage-index ≤ length x.network.now.stages = omega (arith, c.stages-test.true, ap length c.as_slice-stage-items.ensures, order_long x.network.now x.forest.now c.requires.node.forest) in
    on_error c.from_residual-in_err-wanted.result (grown_so_far x.network.now x.range.now x.forest.now c.args.pool.now c.stages.pool c.args.steps.now c.stages.steps c.stages.numbers.items c.stages.stage-index low c.stages.invariant)

pub returns-in_err-id-clause-err : goal.returns-in_err-id-clause-err
returns-in_err-id-clause-err g c =
    let x = c.args.node.now in
    let low : c.stages.stage-index < length x.network.now.stages = omega (arith, c.stages-test.true, ap length c.as_slice-stage-items.ensures, order_long x.network.now x.forest.now c.requires.node.forest) in
    on_error c.from_residual-in_err-id.result (grown_by_one x.network.now x.range.now x.forest.now c.args.pool.now c.stages.pool c.find_or_fill.new.self c.args.steps.now c.stages.steps c.find_or_fill.new.steps c.stages.numbers.items c.stages.stage-index low c.stages.invariant c.in_err-id.ensures.err)
