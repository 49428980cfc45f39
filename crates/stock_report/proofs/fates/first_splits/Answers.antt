use Rattle.std.proofs.Common.{◌<◌, length, get_or, None, ◌∙◌, arith}
use Rattle.stock_report.proofs.FateFacts.{first_more}
use Rattle.stock_report.proofs.fates.first_splits.Goals as goal

pub splits-preserved : goal.splits-preserved
splits-preserved c = record {
  length = omega arith;
  firsts = λ k within.
      let there : k < length c.splits.firsts = omega arith in
      c.put_first.ensures.firsts k there
      ∙ first_more c.args.splits.now c.splits.split-index k (get_or c.splits.firsts k None) c.splits-test.true (c.splits.invariant.firsts k within);
}
