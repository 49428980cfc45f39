use Rattle.stock_report.specs.Explanations.{IsExplainedSplit}
use Rattle.stock_report.proofs.FateFacts.{first_holds}
use Rattle.stock_report.proofs.node.node_row.Goals as goal

pub push_fate-requires-clause-split : goal.push_fate-requires-clause-split
push_fate-requires-clause-split c =
    rw c.requires.split (first_holds (IsExplainedSplit c.args.checked.now.network c.args.cert.now.nodes) c.args.cert.now.splits c.args.place c.requires.explainable.splits)
