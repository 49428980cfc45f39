use Rattle.std.proofs.Common.{refl, subst, take_all}
use Rattle.std.specs.Prelude.{All}
use Rattle.std.proofs.lemmas.List.Elements.{All-more}
use Rattle.service_model.specs.Tables.{table_at}
use Rattle.service_model.specs.Nodes.{Fits}
use Rattle.node_rules.proofs.fits.all_fit.Goals as goal

pub numbers-preserved : goal.numbers-preserved
numbers-preserved c =
    All-more (λ k. Fits c.args.range.now.network.now c.args.range.now.range.now (table_at c.args.tables.now k)) c.args.numbers.now c.numbers.number-index 0
    c.numbers-test.true c.numbers.invariant
    (subst (Fits c.args.range.now.network.now c.args.range.now.range.now) c.table_in.ensures (c.fits.ensures.0 c.if-not-fits.false))

pub returns : goal.returns
returns c = (
  λ yes'.
      subst (All (λ k. Fits c.args.range.now.network.now c.args.range.now.range.now (table_at c.args.tables.now k)))
      (take_all c.numbers.number-index c.args.numbers.now c.numbers-test.false) c.numbers.invariant,
  λ all. refl,
)
