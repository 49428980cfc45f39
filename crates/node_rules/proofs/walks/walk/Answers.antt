use Rattle.std.proofs.Common.{◌++◌, List, ℕ, false, get_or, length, replicate, reverse, sym, ap, ◌∙◌}
use Rattle.service_model.specs.declared.table.Table.{Table}
use Rattle.node_rules.proofs.WalkFacts.{walk_start, walk_there, walk_twice, walk_more}
use Rattle.node_rules.proofs.walks.walk.Goals as goal

pub tables-init : goal.tables-init
tables-init c =
    walk_start c.args.network.now c.args.tables.now c.args.roots.now c.new-met.result c.push_all.new.stack.items c.in_ok-seen.seen c.requires.there
    c.new-met.ensures
    (c.in_ok-push_all.ensures ∙ ap (λ (xs : List ℕ). xs ++ reverse c.args.roots.now) c.new-stack.ensures.items)
    (c.in_ok-seen.ensures ∙ ap (λ (count : ℕ). replicate count false) (c.len.ensures ∙ ap length c.stages.ensures.value))

pub table_in-table-requires : goal.table_in-table-requires
table_in-table-requires c = walk_there _ _ _ _ _ _ _ _ c.tables.invariant c.in-Some.ensures.some

pub returns-then-mark : goal.returns-then-mark
returns-then-mark c =
    walk_twice _ _ _ _ _ _ _ _ c.requires.sound c.tables.invariant c.in-Some.ensures.some
    (ap (λ (t : Table). get_or c.tables.seen t.stage false) (sym c.table_in-table.ensures) ∙ sym c.mark.ensures.was ∙ c.if-mark.true)

pub tables-preserved : goal.tables-preserved
tables-preserved c =
    rw (c.in_ok-push.ensures.ok, c.mark.ensures.set, c.table_in-table.ensures)
    (walk_more _ _ _ _ _ _ _ _ _ c.requires.sound c.tables.invariant c.in-Some.ensures.some
    (ap (λ (t : Table). get_or c.tables.seen t.stage false) (sym c.table_in-table.ensures) ∙ sym c.mark.ensures.was ∙ c.if-mark.false)
    (c.in_ok-push_all-2.ensures ∙ ap (λ (xs : List ℕ). c.take_top.new.stack.items ++ reverse xs) (c.as_slice.ensures ∙ ap (λ (t : Table). t.children) c.table_in-table.ensures)))
