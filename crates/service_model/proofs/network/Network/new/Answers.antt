use Rattle.std.proofs.Common.{Some, None, refl, ap, ◌∙◌, map}
use Rattle.service_model.specs.Net.{net_of}
use Rattle.service_model.specs.ArcEnds.{ends_of}
use Rattle.service_model.proofs.NetworkFacts.{IsNetwork_from_none, first_fault_of_same, no_memory_makes_none}
use Rattle.service_model.proofs.network.Network.new.Goals as goal

pub of-requires : goal.of-requires
of-requires c =
    let none = first_fault_of_same c.args.horizon _ c.args.stages _ c.args.arcs _ None c.as_slice.ensures c.as_slice-2.ensures c.in-None.is c.in_ok-fault.ensures in
    let valid = IsNetwork_from_none (net_of c.args.horizon c.args.stages c.args.arcs) none in
    rw c.as_slice-in-None.ensures valid.once

pub invariant_of-result : goal.invariant_of-result
invariant_of-result c =
    let none = first_fault_of_same c.args.horizon _ c.args.stages _ c.args.arcs _ None c.as_slice.ensures c.as_slice-2.ensures c.in-None.is c.in_ok-fault.ensures in
    (IsNetwork_from_none (net_of c.args.horizon c.args.stages c.args.arcs) none, c.in_ok-ends-in-None.ensures ∙ ap (map ends_of) c.as_slice-in-None.ensures)

pub returns-in-Some : goal.returns-in-Some
returns-in-Some c = first_fault_of_same c.args.horizon _ c.args.stages _ c.args.arcs _ (Some c.in-Some.fault) c.as_slice.ensures c.as_slice-2.ensures c.in-Some.is c.in_ok-fault.ensures

pub returns-in_ok-ends-in-None : goal.returns-in_ok-ends-in-None
returns-in_ok-ends-in-None c = (refl, first_fault_of_same c.args.horizon _ c.args.stages _ c.args.arcs _ None c.as_slice.ensures c.as_slice-2.ensures c.in-None.is c.in_ok-fault.ensures)

pub returns-in_err-fault : goal.returns-in_err-fault
returns-in_err-fault c = no_memory_makes_none _ _ c.from_residual.ensures.1
