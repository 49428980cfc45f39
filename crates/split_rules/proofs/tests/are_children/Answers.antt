use Rattle.std.proofs.Common.{◌<◌, ◌≤◌, length, subst, take_all, rules}
use Rattle.std.specs.Prelude.{All}
use Rattle.std.proofs.lemmas.List.Elements.{All-more}
use Rattle.service_model.specs.declared.table.Table.{Table}
use Rattle.service_model.specs.Tables.{table_at, IsChild}
use Rattle.split_rules.proofs.tests.are_children.Goals as goal

pub children-preserved : goal.children-preserved
children-preserved c =
    let within : c.children.child-index < length c.args.children.now = search rules in
    All-more (λ k. (k < c.args.number) × IsChild (table_at c.args.tables.now k).kind c.args.network.now.arcs (table_at c.args.tables.now k).stage c.args.stage)
    c.args.children.now c.children.child-index 0 within c.children.invariant (
      c.if-at-number.false,
      subst (λ (t : Table). IsChild t.kind c.args.network.now.arcs t.stage c.args.stage) c.table_in.ensures (c.may_hang.ensures c.if-not-may_hang.false),
    )

pub returns : goal.returns
returns c =
    let done : length c.args.children.now ≤ c.children.child-index = search rules in
    λ all'.
    subst (All (λ k. (k < c.args.number) × IsChild (table_at c.args.tables.now k).kind c.args.network.now.arcs (table_at c.args.tables.now k).stage c.args.stage))
    (take_all c.children.child-index c.args.children.now done) c.children.invariant
