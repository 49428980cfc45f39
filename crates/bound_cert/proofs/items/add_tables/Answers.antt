use Rattle.std.proofs.Common.{◌∙◌}
use Rattle.service_model.specs.declared.cert.Item.TheVariants.{Table as TableItem}
use Rattle.bound_cert.proofs.ItemsFacts.{moved_one}
use Rattle.bound_cert.proofs.items.add_tables.Goals as goal

pub tables-preserved : goal.tables-preserved
tables-preserved c =
    let moved = moved_one TableItem c.tables.items c.push.new.self c.in-Some.table c.tables.tables c.next.new.self c.args.count c.tables.counter
    c.tables-test.true c.in-Some.ensures.some c.in_ok-push.ensures.ok in
    record { items = moved.0 ∙ c.tables.invariant.items; left = moved.1 ∙ c.tables.invariant.left }
