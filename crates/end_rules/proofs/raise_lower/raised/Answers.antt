use Rattle.service_model.specs.Repairs.{Raise}
use Rattle.end_rules.proofs.CandidateFacts.{raise_from, candidate_from}
use Rattle.end_rules.proofs.raise_lower.raised.Goals as goal

pub returns : goal.returns
returns c =
    let q = c.args.plan.now in
    candidate_from c.args.network.now Raise q _ c.if_feasible.result c.arrivals.ensures.valid c.requires
    (raise_from c.args.network.now q c.in_ok-inbound.inbound c.requires.times c.in_ok-inbound.ensures.arrivals)
    (rw (c.in_ok-outbound.ensures, c.as_slice.ensures) at c.if_feasible.ensures)
