use Rattle.std.proofs.Common.{◌∙◌}
use Rattle.service_model.specs.declared.cert.Item.TheVariants.{Split as SplitItem}
use Rattle.bound_cert.proofs.ItemsFacts.{moved_one}
use Rattle.bound_cert.proofs.items.add_splits.Goals as goal

pub splits-preserved : goal.splits-preserved
splits-preserved c =
    let moved = moved_one SplitItem c.splits.items c.push.new.self c.in-Some.split c.splits.splits c.next.new.self c.args.count c.splits.counter
    c.splits-test.true c.in-Some.ensures.some c.in_ok-push.ensures.ok in
    record { items = moved.0 ∙ c.splits.invariant.items; left = moved.1 ∙ c.splits.invariant.left }
