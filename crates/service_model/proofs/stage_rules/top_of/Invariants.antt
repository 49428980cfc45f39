use Rattle.std.proofs.Common.{◌≡◌, take}
use Rattle.service_model.specs.Faults.{top_of}
use Rattle.service_model.proofs.stage_rules.top_of.Given as goal

abbrev pub invariant-entries : goal.invariant-entries
invariant-entries l = l.top ≡ top_of (take l.entry-index l.cost)
