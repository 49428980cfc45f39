use Rattle.std.proofs.Common.{◌≡◌, map, ap, ◌∙◌}
use Rattle.demand_tables.specs.DemandFaults.{supply_arc}
use Rattle.network_check.specs.Checked.{supply_arcs}
use Rattle.network_check.proofs.LimitFacts.{ends_within}
use Rattle.network_check.proofs.TogetherFacts.{no_cycle}
use Rattle.network_check.proofs.network.check_records.Goals as goal

pub first_on_cycle-requires-clause-ends : goal.first_on_cycle-requires-clause-ends
first_on_cycle-requires-clause-ends c =
    let arcs : c.as_slice-2.result.now ≡ supply_arcs c.args.raw.now = c.as_slice-2.ensures ∙ c.in_ok-arcs.ensures ∙ ap (map supply_arc) c.as_slice.ensures in
    ends_within c.args.raw.now c.as_slice-2.result.now c.len.result c.requires.read arcs c.len.ensures

pub checked_of-requires-clause-acyclic : goal.checked_of-requires-clause-acyclic
checked_of-requires-clause-acyclic c =
    let arcs : c.as_slice-2.result.now ≡ supply_arcs c.args.raw.now = c.as_slice-2.ensures ∙ c.in_ok-arcs.ensures ∙ ap (map supply_arc) c.as_slice.ensures in
    no_cycle c.args.raw.now c.len.result c.as_slice-2.result.now c.in_ok-stage.field-0 c.len.ensures arcs c.in-None.is c.in_ok-stage.ensures.first
