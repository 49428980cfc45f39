use Rattle.std.proofs.Common.{◌≡◌, None, rules}
use Rattle.service_model.specs.Net.{net_of}
use Rattle.service_model.specs.Search.{first_of}
use Rattle.service_model.specs.Faults.{rules_before_cycle}
use Rattle.service_model.proofs.NetworkFacts.{ends_within, first_fault_from_cycle}
use Rattle.service_model.proofs.faults.fault_of.Goals as goal

pub fault_from_cycle-requires-clause-ends : goal.fault_from_cycle-requires-clause-ends
fault_from_cycle-requires-clause-ends c =
    let n = net_of c.args.horizon c.args.stages.now c.args.arcs.now in
    let none : first_of (rules_before_cycle n) ≡ None = search rules in
    ends_within n none

pub returns-in-None : goal.returns-in-None
returns-in-None c =
    let n = net_of c.args.horizon c.args.stages.now c.args.arcs.now in
    let none : first_of (rules_before_cycle n) ≡ None = search rules in
    first_fault_from_cycle n none _ (c.fault_from_cycle.ensures.whatever_else c.args.horizon)
