use Rattle.std.proofs.Common.{◌≡◌, ◌≤◌, []}
use Rattle.service_model.specs.declared.limits.TheConstants.{MAX_PLAN_COST}
use Rattle.service_model.specs.Net.{net_of}
use Rattle.service_model.specs.Faults.{tops_below}
use Rattle.service_model.proofs.EntryFacts.{NoneSoFar}
use Rattle.service_model.proofs.stage_rules.entry_fault.Given as goal

abbrev pub invariant-stages : goal.invariant-stages
invariant-stages l = record {
  tops : l.tops ≡ tops_below (net_of 0 l.stages []) l.j;
  small : l.tops ≤ MAX_PLAN_COST;
  none : NoneSoFar l.stages l.j;
}
