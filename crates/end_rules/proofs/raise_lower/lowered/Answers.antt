use Rattle.service_model.specs.Repairs.{Lower}
use Rattle.end_rules.proofs.CandidateFacts.{lower_from, candidate_from}
use Rattle.end_rules.proofs.raise_lower.lowered.Goals as goal

pub returns : goal.returns
returns c =
    let q = c.args.plan.now in
    candidate_from c.args.network.now Lower q _ c.if_feasible.result c.needs.ensures.valid c.requires
    (lower_from c.args.network.now q c.in_ok-outbound.outbound c.requires.times c.in_ok-outbound.ensures.needs)
    (rw (c.in_ok-inbound.ensures, c.as_slice.ensures) at c.if_feasible.ensures)
