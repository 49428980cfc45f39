use Rattle.std.proofs.Common.{take}
use Rattle.service_model.specs.Waits.{Released}
use Rattle.service_model.proofs.waits.release.Given as goal

abbrev pub invariant-loop-customer : goal.invariant-loop-customer
invariant-loop-customer l = Released (take l.customer-index l.customers) l.initial.waits l.waits l.initial.ready l.ready
