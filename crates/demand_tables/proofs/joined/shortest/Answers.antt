use Rattle.std.proofs.Common.{◌≤◌, length, List, subst}
use Rattle.std.specs.Prelude.{All}
use Rattle.std.proofs.lemmas.List.{take_all}
use Rattle.stage_file.specs.declared.arcs.ArcRow.{ArcRow}
use Rattle.demand_tables.specs.Demand.{excess_at}
use Rattle.demand_tables.proofs.ArcFacts.{no_arc_row}
use Rattle.demand_tables.proofs.ShortestFacts.{reached_more, least_more}
use Rattle.demand_tables.proofs.joined.shortest.Goals as goal

pub arcs-preserved : goal.arcs-preserved
arcs-preserved c =
    let lists = c.args.lists.now in
    let arcs = c.args.arcs.now in
    let k = c.arcs.arc-index in
    rw c.min-least.ensures (record {
      reached = reached_more lists arcs k c.arcs.least c.customer_len.result no_arc_row c.arcs-test.true c.customer_len.ensures c.arcs.invariant.reached;
      least = least_more lists arcs k c.arcs.least c.customer_len.result no_arc_row c.arcs-test.true c.customer_len.ensures c.arcs.invariant.least;
    })

pub returns : goal.returns
returns c = record {
  reached = c.arcs.invariant.reached;
  least = subst (λ (xs : List ArcRow). All (λ a. c.arcs.least ≤ length (excess_at c.args.lists.now a.customer)) xs) (take_all c.arcs.arc-index c.args.arcs.now c.arcs-test.false) c.arcs.invariant.least;
}
