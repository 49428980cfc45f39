-- The least over the turned list.
use Rattle.std.proofs.Common.{refl, sym, ap, subst, ◌∙◌, length, arith}
use Rattle.std.specs.Prelude.{reverse}
use Rattle.tree_tables.specs.Leasts.{IsLeast}
use Rattle.tree_tables.specs.Sums.{Parts, local_at}
use Rattle.tree_tables.proofs.LeastFacts.{least_local}
use Rattle.tree_tables.proofs.local.LocalSums.least_outbound.Goals as goal

pub returns : goal.returns
returns c =
    let inside = c.self.inside in
    let p : Parts = record { lead = inside.stage.now.lead; cost = inside.stage.now.cost; down = inside.down.now; up = inside.up.now } in
    let up = ap (λ (q : Parts). length q.up) c.self.view_is in
    let down = ap (λ (q : Parts). length q.down) c.self.view_is in
    subst (λ (q : Parts). IsLeast (λ o. local_at q c.args.inbound o) c.args.from c.args.to c.capped_add.result) c.self.view_is
    (subst (IsLeast (λ o. local_at p c.args.inbound o) c.args.from c.args.to) (sym c.capped_add.ensures)
    (least_local p c.args.turned.now c.as_slice-cost.result.now _ c.args.inbound c.args.from c.args.to c.least_sum-least.result
    (c.requires.turned ∙ ap (λ (q : Parts). reverse q.up) (sym c.self.view_is)) c.as_slice-cost.ensures refl
    (omega (arith, up, down, c.requires.inbound, c.self.invariant.same)) c.requires.interval (omega (arith, up)) c.least_sum-least.ensures))
