use Rattle.std.proofs.Common.{arith, slice_index, inl, inr, ⊎_elim, ◌∙◌, ap, sym}
use Rattle.std.proofs.lemmas.Bool.{cases_eq, eqb-true, eq-eqb}
use Rattle.service_model.proofs.waits.first_ready.Goals as goal

pub loop-stage-preserved : goal.loop-stage-preserved
loop-stage-preserved c =
    let value = c.get.ensures.whatever_else 0 in
    record {
      only = λ j now. ⊎_elim
          (λ was. let p = c.loop-stage.invariant.only j was in (omega (arith, p.0), p.1))
          (λ p. (omega (arith, p.0), ap (slice_index c.args.waits.now) p.0 ∙ value ∙ eqb-true _ 0 p.1))
          ((c.in_ok-insert_if.ensures j).0 now);
      all = λ j within none. ⊎_elim
          (λ same. (c.in_ok-insert_if.ensures j).1 (inr (same, eq-eqb c.get.result.now 0 (sym value ∙ ap (slice_index c.args.waits.now) (sym same) ∙ none))))
          (λ other. (c.in_ok-insert_if.ensures j).1 (inl (c.loop-stage.invariant.all j (omega (arith, within, other)) none)))
          (cases_eq j c.loop-stage.stage);
    }

pub returns-clause-ready : goal.returns-clause-ready
returns-clause-ready c = λ j now. let p = c.loop-stage.invariant.only j now in (omega (arith, p.0), p.1)
