use Rattle.std.proofs.Common.{◌≡◌, ◌-◌, ℕ, length, arith}
use Rattle.planner_top.proofs.SolveFacts.{solution_shown}
use Rattle.planner_top.proofs.solve.solution_of.Goals as goal

pub returns-clause-solution : goal.returns-clause-solution
returns-clause-solution g c =
    let cert = c.in_ok-cert.cert in
    let said = c.in_ok-cert.ensures in
    let filled : ℕ = c.cert_for.new.steps - c.args.steps.now in
    let counted : filled ≡ length cert.tables = omega (arith, said.filled) in
    solution_shown c.answer_with.result c.args.checked.now c.args.forest.now c.args.budget c.args.report filled cert
    (record { own = said.own; true_verdict = said.true_verdict; filled_is = counted; accepted = said.accepted; nodes = said.nodes; full = said.full; short = said.short; solved = said.solved; one = said.one; stages = said.stages })
    c.answer_with.ensures.ending c.answer_with.ensures.text c.answer_with.ensures.cert
