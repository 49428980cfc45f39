use Rattle.service_model.proofs.ArcEndFacts.{ends_more}
use Rattle.service_model.proofs.arc_ends.ArcEnds.of.Goals as goal

pub arcs-preserved : goal.arcs-preserved
arcs-preserved c =
    ends_more c.args.arcs.now c.arcs.arc-index c.arcs.pairs.keys _ c.requires c.arcs-test.true c.arcs.invariant c.in_ok-insert.ensures.keys
