use Rattle.std.proofs.Common.{◌≡◌, None, take}
use Rattle.std.specs.List.{list_any}
use Rattle.service_model.specs.declared.stage.SupplyArc.{SupplyArc}
use Rattle.service_model.specs.Search.{first_below}
use Rattle.service_model.specs.Faults.{same_ends}
use Rattle.service_model.specs.Ends.{has_ends}
use Rattle.service_model.proofs.EndFacts.{twice_rule}
use Rattle.service_model.proofs.arc_rules.twice_fault.Given as goal

abbrev pub invariant-arcs : goal.invariant-arcs
invariant-arcs l = record {
  met : (other : SupplyArc) → has_ends l.met other ≡ list_any (same_ends other) (take l.a l.arcs);
  none : first_below (twice_rule l.arcs) l.a ≡ None;
}
