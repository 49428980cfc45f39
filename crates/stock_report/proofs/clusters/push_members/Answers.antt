use Rattle.stock_report.specs.ClusterRows.{member_row}
use Rattle.stock_report.proofs.ReportFacts.{rows_more}
use Rattle.stock_report.proofs.clusters.push_members.Goals as goal

pub stages-preserved : goal.stages-preserved
stages-preserved c =
    rw (c.in_ok-push.ensures.ok, c.in_ok-member_row.ensures, c.stages.invariant) (rows_more (member_row c.args.checked.now c.args.clusters.now) c.args.rows.now c.stages.place)
