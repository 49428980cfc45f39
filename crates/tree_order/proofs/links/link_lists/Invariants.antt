-- The lists have the arcs that were gone through.
use Rattle.tree_order.specs.Links.{HasLinks}
use Rattle.tree_order.proofs.links.link_lists.Given as goal

abbrev pub invariant-arcs : goal.invariant-arcs
invariant-arcs l = HasLinks l.stages l.arcs l.number l.lists.items
