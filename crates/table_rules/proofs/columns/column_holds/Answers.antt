-- The times that the cost list allows decide.
use Rattle.std.proofs.Common.{arith}
use Rattle.table_rules.proofs.ColumnFacts.{column_by_allowed}
use Rattle.table_rules.proofs.columns.column_holds.Goals as goal

pub returns : goal.returns
returns c =
    let column =
    column_by_allowed c.as_slice-cost.result.now c.args.stage.now c.args.table.now c.args.down.now c.args.up c.args.outbound c.max-first.result c.min-end.result
    c.as_slice-cost.ensures c.requires.values (omega (arith, c.saturating_sub.ensures, c.max-first.ensures))
    (omega (arith, c.saturating_sub-2.ensures, c.min-end.ensures)) c.if-end-first.false in
    (λ holds. column.0 (c.part_holds.ensures.0 holds), λ holds. c.part_holds.ensures.1 (column.1 holds))
