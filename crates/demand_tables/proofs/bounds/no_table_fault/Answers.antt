use Rattle.std.proofs.Common.{Some, sym, ap, ◌∙◌, length, arith}
use Rattle.stage_file.specs.declared.fault.FileKind.TheVariants.{Stages}
use Rattle.stage_file.specs.declared.rules.TheConstants.{NO_TABLE}
use Rattle.stage_file.specs.declared.stages.StageRow.{StageRow}
use Rattle.stage_file.specs.Faults.{fails_if}
use Rattle.demand_tables.specs.Demand.{no_row, table_names}
use Rattle.demand_tables.specs.DemandFaults.{lacks_table, no_table_at}
use Rattle.demand_tables.proofs.RuleFacts.{first_fails, next_holds}
use Rattle.demand_tables.proofs.bounds.no_table_fault.Goals as goal

pub returns-then-lacks_table : goal.returns-then-lacks_table
returns-then-lacks_table c =
    let raw = c.args.lookups.now.raw.now in
    let s = c.get-stage.result.now in
    let names = table_names c.args.lookups.now.raw.now.tables in
    let here = ap (λ (r : StageRow). fails_if Stages r.row NO_TABLE 6 (lacks_table (table_names c.args.lookups.now.raw.now.tables) r.bound)) (c.get-stage.ensures.whatever_else no_row) in
    ap Some c.bound_fault.ensures
    ∙ sym (first_fails (no_table_at raw) (length c.args.lookups.now.raw.now.stages) c.stages.j s.row NO_TABLE (lacks_table names s.bound) c.stages.invariant (omega arith) here (sym c.lacks_table.ensures ∙ c.if-lacks_table.true))

pub stages-preserved : goal.stages-preserved
stages-preserved c =
    let raw = c.args.lookups.now.raw.now in
    let s = c.get-stage.result.now in
    let names = table_names c.args.lookups.now.raw.now.tables in
    let here = ap (λ (r : StageRow). fails_if Stages r.row NO_TABLE 6 (lacks_table (table_names c.args.lookups.now.raw.now.tables) r.bound)) (c.get-stage.ensures.whatever_else no_row) in
    next_holds (no_table_at raw) c.stages.j s.row NO_TABLE (lacks_table names s.bound) c.stages.invariant here (sym c.lacks_table.ensures ∙ c.if-lacks_table.false)
