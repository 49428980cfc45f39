use Rattle.range_nodes.proofs.RuleFacts.{node_rules}
use Rattle.range_nodes.proofs.laws.node_rules_law.Goals as goal

pub returns : goal.returns
returns c = node_rules
