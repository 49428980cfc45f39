use Rattle.std.proofs.Common.{sym, ap, ◌∙◌, arith}
use Rattle.std.proofs.lemmas.Grind.{common_steps}
use Rattle.std.proofs.lemmas.Result.{err_from_is_err_and}
use Rattle.bound_cert.specs.Fields.{wholes_among}
use Rattle.bound_cert.proofs.ReadFacts.{with_front, front_more, next_item, refused_ends, all_read}
use Rattle.bound_cert.proofs.values.wholes_among.Goals as goal

pub returns-in_err-n-clause-value : goal.returns-in_err-n-clause-value
returns-in_err-n-clause-value c =
    let here = next_item c.args.values.now c.values.value-index c.value-item.result c.values-test.true c.value-item.is in
    let p = err_from_is_err_and c.from_residual.result c.from_residual.ensures.1 in
    let same = ap (λ ds. with_front c.values.found.items (wholes_among c.args.most ds)) (sym here) ∙ c.values.invariant.front in
    rw (p.1, p.2) (refused_ends c.args.most _ _ _ _ _ same c.in_err-n.ensures.value)

pub values-preserved : goal.values-preserved
values-preserved c =
    let here = next_item c.args.values.now c.values.value-index c.value-item.result c.values-test.true c.value-item.is in
    record {
      front = rw c.in_ok-push.ensures.items (front_more c.args.most _ _ _ _ c.in_ok-n.ensures.value ∙ ap (λ ds. with_front c.values.found.items (wholes_among c.args.most ds)) (sym here) ∙ c.values.invariant.front);
      within = grind (arith, common_steps);
    }

pub returns-clause-value : goal.returns-clause-value
returns-clause-value c = all_read c.args.most _ _ _ _ c.values-test.false c.values.invariant.front
