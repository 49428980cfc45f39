use Rattle.std.proofs.Common.{◌≡◌, rules}
use Rattle.service_model.specs.Net.{net_of}
use Rattle.service_model.specs.Search.{first_of}
use Rattle.service_model.specs.Faults.{fails_at, rules_from_cycle}
use Rattle.service_model.proofs.faults.fault_from_cycle.Goals as goal

pub returns : goal.returns
unfolding fails_at
returns c =
    let first = c.in_ok-first.first in
    record {
      whatever_else = λ horizon.
          let found : c.or_else.result ≡ first_of (rules_from_cycle (net_of horizon c.args.stages.now c.args.arcs.now) first) = search rules in
          (first, c.in_ok-first.ensures.first, found);
    }
