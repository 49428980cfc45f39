-- Each child in turn, by its place in the list of children.
use Rattle.std.proofs.Common.{List, ℕ, ◌<◌, get_or, length, ap, sym, ◌∙◌, subst, arith}
use Rattle.service_model.specs.declared.table.Table.{Table}
use Rattle.service_model.specs.Tables.{table_at}
use Rattle.gsm_laws.specs.Traces.{IsTraceOf}
use Rattle.tree_tables.specs.Steps.{IsChildPlace, IsTraceable}
use Rattle.tree_tables.proofs.TraceSteps.{fill_of, ready, next_child, last_child}
use Rattle.tree_tables.proofs.traces.+set_below.Goals as goal

pub times_at-times-requires-clause-filled : goal.times_at-times-requires-clause-filled
times_at-times-requires-clause-filled t c =
    fill_of c.args.network.now c.args.made.now c.table_of-table.result.now c.args.i c.table_of-table.ensures c.requires.tight

pub set_below-requires : goal.set_below-requires
set_below-requires t c =
    let n = c.args.network.now in
    let made = c.args.made.now in
    let k = c.children.c-index in
    let table = c.table_of-table.result.now in
    let a = c.times_at-times.result.inbound in
    let b = c.times_at-times.result.outbound in
    let place = c.child_place-below.result in
    let items = c.as_slice-c-items.ensures in
    let child = c.table_of.ensures ∙ ap (λ (xs : List ℕ). table_at made (get_or xs k 0)) items in
    let stands = subst (λ (u : Table). IsChildPlace n u table a b place) child c.child_place-below.ensures in
    let next = ready n made table c.args.i c.args.place a b k place c.args.plan.now c.children.plan c.table_of-table.ensures c.requires
    c.times_at-times.ensures c.children.invariant (omega (arith, c.children-test.true, ap length items)) stands in
    subst (λ (xs : List ℕ). (get_or xs k 0 < t) × IsTraceable n made (get_or xs k 0) place c.children.plan) (sym items)
    (omega (arith, next.0, c.decreases), next.1)

pub children-preserved : goal.children-preserved
children-preserved t c =
    let n = c.args.network.now in
    let made = c.args.made.now in
    let k = c.children.c-index in
    let table = c.table_of-table.result.now in
    let a = c.times_at-times.result.inbound in
    let b = c.times_at-times.result.outbound in
    let place = c.child_place-below.result in
    let items = c.as_slice-c-items.ensures in
    let child = c.table_of.ensures ∙ ap (λ (xs : List ℕ). table_at made (get_or xs k 0)) items in
    let stands = subst (λ (u : Table). IsChildPlace n u table a b place) child c.child_place-below.ensures in
    next_child n made table c.args.i c.args.place a b k place c.args.plan.now c.children.plan c.set_below.new.plan c.table_of-table.ensures c.requires
    c.children.invariant (omega (arith, c.children-test.true, ap length items)) stands
    (subst (λ (xs : List ℕ). IsTraceOf n made (get_or xs k 0) place c.children.plan c.set_below.new.plan) items c.set_below.ensures)

pub returns : goal.returns
returns t c =
    last_child c.args.network.now c.args.made.now c.table_of-table.result.now c.args.i c.args.place c.times_at-times.result.inbound
    c.times_at-times.result.outbound c.children.c-index c.args.plan.now c.children.plan c.table_of-table.ensures c.requires c.times_at-times.ensures
    c.children.invariant (omega (arith, c.children-test.false, ap length c.as_slice-c-items.ensures))
