use Rattle.std.proofs.Common.{◌≡◌, ◌∷◌, length}
use Rattle.std.specs.Vec.Iter.{into_iter_items, into_iter_len}
use Rattle.service_model.specs.declared.cert.Item.TheVariants.{Head as HeadItem}
use Rattle.service_model.specs.Items.{items_from}
use Rattle.bound_cert.specs.Arranged.{with_nodes}
use Rattle.bound_cert.proofs.items.items_of.Given as goal

-- with the items of the nodes that are left, all are made
abbrev pub invariant-nodes : goal.invariant-nodes
invariant-nodes l = record {
  made : with_nodes l.arranged (into_iter_items l.node-iterator) ≡ HeadItem l.fn.cert.head ∷ items_from l.fn.cert 0 0 l.fn.cert.nodes;
  long : into_iter_len l.node-iterator ≡ length (into_iter_items l.node-iterator);
}
