use Rattle.std.proofs.Common.{take}
use Rattle.service_model.specs.Net.{net_of}
use Rattle.incumbent_repair.specs.Inputs.{HasInputs}
use Rattle.incumbent_repair.proofs.inputs.inputs_of.Given as goal

abbrev pub invariant-arcs : goal.invariant-arcs
invariant-arcs l = HasInputs (net_of l.network.horizon l.network.stages (take l.a l.network.arcs)) l.inputs.items
