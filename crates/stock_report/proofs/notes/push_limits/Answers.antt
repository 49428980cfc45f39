use Rattle.stock_report.specs.Explanations.{is_at_limit, limit_row}
use Rattle.stock_report.proofs.ReportFacts.{filtered_numbers}
use Rattle.stock_report.proofs.notes.push_limits.Goals as goal

pub stages-preserved : goal.stages-preserved
stages-preserved c =
    let more = filtered_numbers (limit_row c.args.checked.now c.args.plan.now) (is_at_limit c.args.checked.now.network c.args.plan.now) c.args.rows.now c.stages.place in
    rw (c.in_ok-push_if_at_limit.ensures, c.stages.invariant) more
