-- The least local sums by parts are the values of a tight table.
use Rattle.std.proofs.Common.{List, ℕ, get_or, length, ap, sym, ◌∙◌, subst}
use Rattle.service_model.specs.declared.stage.Stage.{Stage}
use Rattle.service_model.specs.Net.{no_stage}
use Rattle.tree_tables.specs.Fills.{IsFill, table_of}
use Rattle.tree_tables.specs.Sums.{AreDownSums, AreUpSums, AreLeast}
use Rattle.tree_tables.proofs.TightFacts.{fill_by_parts, ok_each}
use Rattle.tree_tables.proofs.values.values_of.Goals as goal

pub returns : goal.returns
returns c =
    let n = c.args.network.now in
    let made = c.args.made.now in
    let w = c.args.wanted.now in
    let stage = sym (c.get-stage.ensures.whatever_else no_stage) ∙ ap (λ (ss : List Stage). get_or ss w.stage no_stage) c.stages.ensures.value in
    let down = c.new.ensures.down ∙ c.deref.ensures.value in
    let up = c.new.ensures.up ∙ c.deref-2.ensures.value in
    let children = c.as_slice-children.ensures in
    ok_each c.least_values.result (AreLeast w.kind c.new.result w.least w.most w.floor) (λ values. IsFill n made (table_of w values))
    (λ values least. fill_by_parts n made w c.new.result values c.requires
    (record {
      lead = c.new.ensures.lead ∙ ap (λ (s : Stage). s.lead) stage;
      cost = c.new.ensures.cost ∙ ap (λ (s : Stage). s.cost) stage;
      down = subst (λ (cs : List ℕ). AreDownSums n.arcs made w.stage cs c.new.result.down) children
          (subst (AreDownSums n.arcs made w.stage c.as_slice-children.result.now) (sym down) c.in_ok-down.ensures.sums);
      up = subst (λ (cs : List ℕ). AreUpSums n.arcs made w.stage cs c.new.result.up) children
          (subst (AreUpSums n.arcs made w.stage c.as_slice-children.result.now) (sym up) c.in_ok-up.ensures.sums);
      fit = c.requires.children.fit;
    })
    (ap length down ∙ c.in_ok-down.ensures.long) (ap length up ∙ c.in_ok-up.ensures.long) least)
    c.least_values.ensures
