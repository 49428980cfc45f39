-- One outbound time more.
use Rattle.std.proofs.Common.{◌+◌, subst, sym}
use Rattle.tree_tables.specs.Sums.{local_at}
use Rattle.tree_tables.proofs.TimeFacts.{IsBestRow, row_taken, row_kept}
use Rattle.tree_tables.proofs.times.best_outbound.Goals as goal
use Rattle.tree_tables.proofs.times.best_outbound.Goals.{then-least-lowest, else-least-lowest}

pub times-preserved : goal.times-preserved
times-preserved c =
    let w = c.args.window in
    let best = IsBestRow (local_at c.args.sums.now) w.from w.to w.least (c.times.outbound + 1) in
    let known = c.times.invariant in
    let here = c.least_inbound-least.ensures in
    elim c.if-least-lowest.branch [
      | then-least-lowest v ↦ subst (λ b. best b c.if-least-lowest.lowest) (sym v.best-is)
          (subst (λ m. best c.times.outbound m) (sym v.lowest-is) (row_taken (local_at c.args.sums.now) w.from w.to w.least c.times.outbound _ _ _ known here v.if-least-lowest.true))
      | else-least-lowest v ↦ subst (λ b. best b c.if-least-lowest.lowest) (sym v.best-is)
          (subst (λ m. best c.times.best m) (sym v.lowest-is) (row_kept (local_at c.args.sums.now) w.from w.to w.least c.times.outbound _ _ _ known here v.if-least-lowest.false))
    ]
