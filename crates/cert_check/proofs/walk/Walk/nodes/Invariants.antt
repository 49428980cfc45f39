use Rattle.std.proofs.Common.{◌≡◌, ◌++◌, List, drop, Ok}
use Rattle.service_model.specs.declared.cert.Item.{Item}
use Rattle.service_model.specs.Items.{items_from}
use Rattle.cert_check.specs.Walking.{Walks}
use Rattle.cert_check.proofs.walk.Walk.nodes.Given as goal

-- the lines of these items came, and the nodes that are left give the others
abbrev pub invariant-nodes : goal.invariant-nodes
invariant-nodes l = record {
  done : List Item;
  walked : Walks l.initial.self l.self done (Ok tt);
  left : done ++ items_from l.cert l.k l.came (drop l.k l.cert.nodes) ≡ items_from l.cert 0 0 l.cert.nodes;
}
