use Rattle.service_model.specs.Held.{node_at, range_of}
use Rattle.cert_check.proofs.PlaceFacts.{split_complete, next_there}
use Rattle.cert_check.proofs.NodeFacts.{node_as}
use Rattle.cert_check.proofs.rules.Rules.split_fault.Goals as goal

pub next_leaf-leaf-requires-clause-complete : goal.next_leaf-leaf-requires-clause-complete
next_leaf-leaf-requires-clause-complete c = split_complete c.args.self.now c.args.came.now.held c.args.split c.requires.kept.sound c.requires.placed

pub node-requires : goal.node-requires
node-requires c =
    let n = c.args.self.now in
    let h = c.args.came.now.held in
    next_there n h c.next_leaf-leaf.result (split_complete n h c.args.split c.requires.kept.sound c.requires.placed) c.next_leaf-leaf.ensures

pub split_fault-requires-clause-node : goal.split_fault-requires-clause-node
split_fault-requires-clause-node c =
    let n = c.args.self.now in
    let h = c.args.came.now.held in
    let k = c.next_leaf-leaf.result.node in
    let there = next_there n h c.next_leaf-leaf.result (split_complete n h c.args.split c.requires.kept.sound c.requires.placed) c.next_leaf-leaf.ensures in
    node_as n c.self.inside.network.now h.tables c.tables.result.now (range_of n h k) c.range.result.now (node_at h.nodes k) c.node.result.now c.self.view_is
    c.tables.ensures c.range.ensures.range c.node.ensures (c.requires.kept.sound.nodes k there)
