use Rattle.std.proofs.Common.{arith}
use Rattle.cert_check.proofs.PlaceFacts.{node_room}
use Rattle.cert_check.proofs.rules.Rules.node_fault.Goals as goal

pub range-requires-clause-there : goal.range-requires-clause-there
range-requires-clause-there c =
    let room = node_room c.args.self.now c.args.came.now.held c.args.node.now c.requires.placed in
    let count = c.node_count.ensures in
    omega (arith, room, count)
