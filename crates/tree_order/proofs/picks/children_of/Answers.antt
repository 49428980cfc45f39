-- The next stage is put among its parent's children.
use Rattle.std.proofs.Common.{length}
use Rattle.tree_order.proofs.PickFacts.{children_more}
use Rattle.tree_order.proofs.picks.children_of.Goals as goal

pub stages-preserved : goal.stages-preserved
stages-preserved c =
    children_more c.args.parent.now (length c.args.parent.now) c.stages.stage c.stages.lists.items c.put_child.new.lists.items c.stages.invariant (c.requires.low c.stages.stage 0 c.stages-test.true) c.in_ok-put_child.ensures
