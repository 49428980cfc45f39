-- The least local sum of the window is the value.
use Rattle.std.proofs.Common.{List, ℕ, get_or, length, ap, sym, ◌∙◌, subst, arith}
use Rattle.service_model.specs.declared.stage.Stage.{Stage}
use Rattle.service_model.specs.Net.{no_stage}
use Rattle.tree_tables.specs.Sums.{AreDownSums, AreUpSums}
use Rattle.tree_tables.proofs.TimeFacts.{attained}
use Rattle.tree_tables.proofs.times.times_over.Goals as goal

pub returns : goal.returns
returns c =
    let n = c.args.network.now in
    let made = c.args.made.now in
    let t = c.args.table.now in
    let stage = sym (c.get-stage.ensures.whatever_else no_stage) ∙ ap (λ (ss : List Stage). get_or ss t.stage no_stage) c.stages.ensures.value in
    let children = c.as_slice-children.ensures in
    attained n made t c.new-sums.result c.args.place c.least_times.result.inbound c.least_times.result.outbound c.window_of.result
    (record {
      lead = c.new-sums.ensures.lead ∙ ap (λ (s : Stage). s.lead) stage;
      cost = c.new-sums.ensures.cost ∙ ap (λ (s : Stage). s.cost) stage;
      down = subst (λ (cs : List ℕ). AreDownSums n.arcs made t.stage cs c.new-sums.result.down) children
          (subst (AreDownSums n.arcs made t.stage c.as_slice-children.result.now) (sym c.new-sums.ensures.down) c.add_down_sums.ensures);
      up = subst (λ (cs : List ℕ). AreUpSums n.arcs made t.stage cs c.new-sums.result.up) children
          (subst (AreUpSums n.arcs made t.stage c.as_slice-children.result.now) (sym c.new-sums.ensures.up) c.add_up_sums.ensures);
      fit = c.requires.filled.children.fit;
    })
    (omega (arith, ap length c.new-sums.ensures.down, c.stages.ensures.valid.horizon)) (omega (arith, ap length c.new-sums.ensures.up, c.stages.ensures.valid.horizon))
    c.requires.filled c.requires.within c.requires.reached c.window_of.ensures c.least_times.ensures.within c.least_times.ensures.least
