-- One time more.
use Rattle.std.proofs.Common.{ℕ, ◌+◌, get_or, subst, sym, arith}
use Rattle.service_model.specs.Plans.{charge}
use Rattle.tree_tables.specs.Leasts.{IsLeast}
use Rattle.tree_tables.proofs.LeastFacts.{charge_at, least_more}
use Rattle.tree_tables.proofs.local.least_between.Goals as goal

pub times-preserved : goal.times-preserved
times-preserved c =
    let f = λ (k : ℕ). charge c.args.early c.args.cost.now k c.args.late + get_or c.args.sums.now k 0 in
    let has = c.requires.entries c.times.k c.times.auto.k c.times-test.true in
    let cost = charge_at c.args.early c.args.cost.now c.times.k c.args.late has.0 has.1 in
    subst (IsLeast f c.args.from (c.times.k + 1)) (sym c.min-least.ensures)
    (least_more f c.args.from c.times.k c.times.least _ c.times.invariant c.times.auto.k (omega (arith, cost)))
