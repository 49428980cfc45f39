use Rattle.std.proofs.Common.{◌≡◌, ◌-◌, length, refl, ap, arith}
use Rattle.script_run.proofs.StepFacts.{answer_told}
use Rattle.script_run.proofs.told.answered.Goals as goal

pub returns-clause-told : goal.returns-clause-told
returns-clause-told g c =
    let ticks = c.in_ok-cert.ensures.filled in
    let before = c.count-before.ensures in
    let after = c.count.ensures in
    let filled : c.count.result - c.count-before.result ≡ length c.in_ok-cert.cert.tables = omega (arith, ticks, before, after) in
    answer_told c.args.session.now c.solve.new.self c.args.number c.in_ok-cert.cert c.checked.result.now.network c.len.result (c.count.result - c.count-before.result) _ c.in_ok-cert.ensures.answer c.in_ok-cert.ensures.unchanged
    (ap (λ x. x.network) c.checked.ensures.value) c.stages.ensures.valid c.len.ensures filled c.in_ok-text.ensures refl
