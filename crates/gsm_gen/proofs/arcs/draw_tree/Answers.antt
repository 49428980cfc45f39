use Rattle.std.proofs.Common.{◌≡◌, ◌+◌, ◌-◌, ◌≤◌, sym, ap, subst, ◌∙◌, arith}
use Rattle.gsm_gen.specs.Draws.{HasTaken}
use Rattle.gsm_gen.specs.Joins.{directed, with_arc}
use Rattle.gsm_gen.specs.Networks.{tree_word, tree_arc, tree_arcs, pair_word}
use Rattle.gsm_gen.proofs.NetworkFacts.{tree_none}
use Rattle.gsm_gen.proofs.TreeFacts.{tree_added}
use Rattle.gsm_gen.proofs.arcs.draw_tree.Goals as goal

pub stages-init : goal.stages-init
stages-init c = record {
  ends = c.requires.ends;
  so_far = λ seed has.
      let first : tree_word c.args.stages.now ≡ tree_word c.args.stages.now + 0 = omega arith in
      (c.requires.none ∙ sym (tree_none seed c.args.stages.now), subst (HasTaken c.args.draws.now seed) first has);
}

pub stages-preserved : goal.stages-preserved
unfolding tree_arc
stages-preserved c = record {
  ends = c.in_ok-add.ensures.ends;
  so_far = λ seed has.
      let stages = c.args.stages.now in
      let k = c.stages.k in
      let some : 1 ≤ k = omega arith in
      let before = c.stages.invariant.so_far seed has in
      let j = c.draw-j.ensures.value seed (tree_word stages + (k - 1)) before.1 in
      let taken = c.draw-j.ensures.next seed (tree_word stages + (k - 1)) before.1 in
      let next : tree_word stages + (k - 1) + 1 ≡ tree_word stages + (k + 1 - 1) = omega arith in
      let same : k ≡ k + 1 - 1 = omega arith in
      let arc = c.directed.ensures ∙ ap (λ i. directed stages i k) j in
      let added = c.in_ok-add.ensures.arcs ∙ ap (λ arcs. with_arc arcs c.directed.result) before.0 ∙ ap (with_arc (tree_arcs seed stages (k - 1))) arc ∙ tree_added seed stages k some in
      (added ∙ ap (tree_arcs seed stages) same, subst (HasTaken c.draw-j.new.self seed) next taken);
}

pub returns-clause-arcs : goal.returns-clause-arcs
returns-clause-arcs c seed has =
    let last : c.stages.k - 1 ≡ c.args.count - 1 = omega arith in
    (c.stages.invariant.so_far seed has).0 ∙ ap (tree_arcs seed c.args.stages.now) last

pub returns-clause-taken : goal.returns-clause-taken
returns-clause-taken c seed has =
    let last : tree_word c.args.stages.now + (c.stages.k - 1) ≡ pair_word c.args.stages.now 0 = omega arith in
    subst (HasTaken c.stages.draws seed) last (c.stages.invariant.so_far seed has).1
