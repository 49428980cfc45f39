use Rattle.cert_check.proofs.PlaceFacts.{end_complete}
use Rattle.cert_check.proofs.rules.Rules.end_fault.Goals as goal

pub next_leaf-requires-clause-complete : goal.next_leaf-requires-clause-complete
next_leaf-requires-clause-complete c = end_complete c.args.self.now c.args.came.now.held c.args.verdict.now c.requires.kept.sound c.requires.placed
