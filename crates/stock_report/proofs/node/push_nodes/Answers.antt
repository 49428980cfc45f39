use Rattle.stock_report.specs.Explanations.{node_row}
use Rattle.stock_report.proofs.ReportFacts.{rows_more}
use Rattle.stock_report.proofs.node.push_nodes.Goals as goal

pub nodes-preserved : goal.nodes-preserved
nodes-preserved c =
    rw (c.in_ok-push.ensures.ok, c.in_ok-row.ensures, c.nodes.invariant) (rows_more (node_row c.args.checked.now c.args.cert.now) c.args.rows.now c.nodes.place)
