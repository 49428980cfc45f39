use Rattle.std.proofs.Common.{subst, take_all}
use Rattle.std.specs.Prelude.{All}
use Rattle.std.proofs.lemmas.List.Elements.{All-more}
use Rattle.service_model.specs.CertNumbers.{TableInRange}
use Rattle.node_rules.proofs.tests.are_in_range.Goals as goal

pub tables-preserved : goal.tables-preserved
tables-preserved c =
    All-more TableInRange c.args.tables.now c.tables.table-index c.table-item.result c.tables-test.true c.tables.invariant
    (subst TableInRange c.table-item.is (c.is_in_range.ensures c.if-not-is_in_range.false))

pub returns : goal.returns
returns c = λ all'. subst (All TableInRange) (take_all c.tables.table-index c.args.tables.now c.tables-test.false) c.tables.invariant
