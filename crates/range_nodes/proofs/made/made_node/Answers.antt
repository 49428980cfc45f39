use Rattle.std.proofs.Common.{◌≡◌, length, ap, arith}
use Rattle.std.proofs.lemmas.Result.{IfOk-weaker}
use Rattle.arc_relax.proofs.MadeFacts.{on_error}
use Rattle.range_nodes.specs.declared.made.Made.{Made}
use Rattle.range_nodes.specs.Nodes.{IsMade}
use Rattle.range_nodes.proofs.MadeFacts.{node_by, made_from, relaxed_few, relaxed_grown}
use Rattle.range_nodes.proofs.made.made_node.Goals as goal

pub overflow_cast-filled : goal.overflow_cast-filled
overflow_cast-filled g c =
    let few = relaxed_few c.args.network.now c.args.forest.now c.args.range.now c.args.pool.now c.relax.new.pool c.args.steps.now c.relax.new.steps
    c.in_ok-relaxed.relaxed c.in_ok-relaxed.ensures.ok in
    let same = ap length c.filled.ensures in
    let many = c.requires.many in
    omega (arith, few, same, many)

pub returns-clause-err : goal.returns-clause-err
returns-clause-err g c =
    on_error c.node_of.result
    (relaxed_grown c.args.network.now c.args.forest.now c.args.range.now c.args.pool.now c.relax.new.pool c.args.steps.now c.relax.new.steps
    c.in_ok-relaxed.relaxed c.in_ok-relaxed.ensures.ok)

pub returns-clause-few : goal.returns-clause-few
returns-clause-few g c =
    (relaxed_grown c.args.network.now c.args.forest.now c.args.range.now c.args.pool.now c.relax.new.pool c.args.steps.now c.relax.new.steps
    c.in_ok-relaxed.relaxed c.in_ok-relaxed.ensures.ok).room

pub returns-clause-ok : goal.returns-clause-ok
returns-clause-ok g c =
    let relaxed = c.in_ok-relaxed.relaxed in
    let seen = length c.filled.result.now in
    IfOk-weaker c.node_of.result (λ (m : Made). m ≡ record { node = node_by seen relaxed; bound = relaxed.bound })
    (IsMade c.args.network.now c.args.forest.now c.args.range.now c.args.pool.now c.relax.new.pool c.args.steps.now c.relax.new.steps)
    (λ m same.
    made_from c.args.network.now c.args.forest.now c.args.range.now c.args.pool.now c.relax.new.pool c.args.steps.now c.relax.new.steps seen relaxed m
    c.stages.ensures.valid c.requires.forest c.requires.range c.requires.pool c.requires.many c.in_ok-relaxed.ensures.ok (ap length c.filled.ensures) same)
    c.node_of.ensures
