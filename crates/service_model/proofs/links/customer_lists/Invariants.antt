use Rattle.std.proofs.Common.{take}
use Rattle.service_model.specs.Customers.{HasCustomers}
use Rattle.service_model.proofs.links.customer_lists.Given as goal

abbrev pub invariant-loop-arc : goal.invariant-loop-arc
invariant-loop-arc l = HasCustomers l.stages (take l.arc-index l.arcs) l.lists.items
