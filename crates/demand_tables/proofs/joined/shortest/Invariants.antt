use Rattle.std.proofs.Common.{◌≡◌, ◌≤◌, length, take}
use Rattle.std.specs.Prelude.{All, Any}
use Rattle.demand_tables.specs.Demand.{excess_at}
use Rattle.demand_tables.proofs.joined.shortest.Given as goal

abbrev pub invariant-arcs : goal.invariant-arcs
invariant-arcs l = record {
  reached : Any (λ a. length (excess_at l.lists a.customer) ≡ l.least) l.arcs;
  least : All (λ a. l.least ≤ length (excess_at l.lists a.customer)) (take l.arc-index l.arcs);
}
