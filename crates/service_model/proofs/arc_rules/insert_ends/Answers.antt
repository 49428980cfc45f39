use Rattle.std.proofs.Common.{◌∙◌}
use Rattle.service_model.specs.Ends.{has_ends}
use Rattle.service_model.proofs.EndFacts.{one_more_pair}
use Rattle.service_model.proofs.arc_rules.insert_ends.Goals as goal

pub returns-clause-met : goal.returns-clause-met
returns-clause-met c = λ other.
    c.in_ok-new.ensures.updates.0 (other.supplier, other.customer)
    ∙ one_more_pair c.args.arc.now.supplier c.args.arc.now.customer other.supplier other.customer (has_ends c.args.met.now other)
