use Rattle.std.proofs.Common.{◌≡◌, ◌==◌, Some, sym, ap, ◌∙◌, length, arith, false}
use Rattle.std.specs.Prelude.{◌&&◌}
use Rattle.std.proofs.lemmas.Bool.{and_from, and_left, and_right}
use Rattle.stage_file.specs.declared.fault.FileKind.TheVariants.{Stages}
use Rattle.stage_file.specs.declared.rules.TheConstants.{NO_CUSTOMERS}
use Rattle.stage_file.specs.declared.stages.StageRow.{StageRow}
use Rattle.stage_file.specs.Faults.{fails_if}
use Rattle.demand_tables.specs.Demand.{arcs_from, no_row}
use Rattle.demand_tables.specs.DemandFaults.{asks_customers, no_customers_at}
use Rattle.demand_tables.proofs.RuleFacts.{first_fails, next_holds}
use Rattle.demand_tables.proofs.bounds.no_customers_fault.Goals as goal
use Rattle.demand_tables.proofs.bounds.no_customers_fault.Goals.{else-asks_customers-via-then-asks_customers+else-is_empty, else-asks_customers-via-else-asks_customers}

pub returns-then-is_empty : goal.returns-then-is_empty
returns-then-is_empty c =
    let raw = c.args.lookups.now.raw.now in
    let s = c.get-stage.result.now in
    let alone = length (arcs_from c.args.lookups.now.raw.now.arcs c.stages.j) == 0 in
    let here = ap (λ (r : StageRow). fails_if Stages r.row NO_CUSTOMERS 6 (asks_customers r.bound && (length (arcs_from c.args.lookups.now.raw.now.arcs c.stages.j) == 0))) (c.get-stage.ensures.whatever_else no_row) in
    let none = ap (λ (xs : _). length xs == 0) (sym c.arcs_from.ensures) ∙ sym c.is_empty.ensures ∙ c.if-is_empty.true in
    ap Some c.bound_fault.ensures
    ∙ sym (first_fails (no_customers_at raw) (length c.args.lookups.now.raw.now.stages) c.stages.j s.row NO_CUSTOMERS (asks_customers s.bound && alone) c.stages.invariant (omega arith) here
    (and_from (asks_customers s.bound) alone (sym c.asks_customers.ensures ∙ c.if-asks_customers.true) none))

pub stages-preserved : goal.stages-preserved
stages-preserved c =
    let raw = c.args.lookups.now.raw.now in
    let s = c.get-stage.result.now in
    let asks = asks_customers c.get-stage.result.now.bound in
    let alone = length (arcs_from c.args.lookups.now.raw.now.arcs c.stages.j) == 0 in
    let here = ap (λ (r : StageRow). fails_if Stages r.row NO_CUSTOMERS 6 (asks_customers r.bound && (length (arcs_from c.args.lookups.now.raw.now.arcs c.stages.j) == 0))) (c.get-stage.ensures.whatever_else no_row) in
    next_holds (no_customers_at raw) c.stages.j s.row NO_CUSTOMERS (asks && alone) c.stages.invariant here
    (elim c.else-asks_customers.branch as (λ _. (asks_customers c.get-stage.result.now.bound && (length (arcs_from c.args.lookups.now.raw.now.arcs c.stages.j) == 0)) ≡ false) [
      | else-asks_customers-via-then-asks_customers+else-is_empty w ↦
          and_right asks alone (ap (λ (xs : _). length xs == 0) (sym w.arcs_from.ensures) ∙ sym w.is_empty.ensures ∙ w.if-is_empty.false)
      | else-asks_customers-via-else-asks_customers w ↦ and_left asks alone (sym c.asks_customers.ensures ∙ w.if-asks_customers.false)
    ])
