use Rattle.split_rules.proofs.NextFacts.{if_next}
use Rattle.split_rules.proofs.leaves.Leaves.next.Goals as goal

pub returns-clause-next : goal.returns-clause-next
returns-clause-next c = λ n h are complete. if_next n h c.args.self.now c.first.result are complete c.first.ensures.there c.first.ensures.least
