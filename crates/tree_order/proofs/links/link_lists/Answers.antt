-- The next arc is put in at both of its ends.
use Rattle.std.proofs.Common.{arith, subst}
use Rattle.tree_order.specs.Links.{HasLinks}
use Rattle.tree_order.proofs.LinkFacts.{links_more}
use Rattle.tree_order.proofs.links.link_lists.Goals as goal

pub arcs-preserved : goal.arcs-preserved
arcs-preserved c =
    links_more c.args.stages c.args.arcs.now c.arcs.number c.arcs.lists.items c.push_at.new.lists.items c.push_at-in-arcs.new.lists.items c.requires.ends c.arcs-test.true c.arcs.invariant c.in_ok-push_at.ensures c.in_ok-push_at-2.ensures

pub returns : goal.returns
returns c = subst (λ n. HasLinks c.args.stages c.args.arcs.now n c.arcs.lists.items) (omega arith) c.arcs.invariant
