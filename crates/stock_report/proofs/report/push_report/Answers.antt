use Rattle.stock_report.specs.Reports.{report_row}
use Rattle.stock_report.proofs.ReportFacts.{rows_more}
use Rattle.stock_report.proofs.report.push_report.Goals as goal

pub stages-preserved : goal.stages-preserved
stages-preserved c =
    rw (c.in_ok-push.ensures.ok, c.in_ok-report_row.ensures, c.stages.invariant) (rows_more (report_row c.args.checked.now c.args.plan.now) c.args.rows.now c.stages.place)
