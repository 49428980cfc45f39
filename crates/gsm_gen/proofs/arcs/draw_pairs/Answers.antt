use Rattle.std.proofs.Common.{◌≡◌, ◌+◌, sym, ap, subst, ◌∙◌, arith}
use Rattle.gsm_gen.specs.Words.{drawn}
use Rattle.gsm_gen.specs.Draws.{HasTaken}
use Rattle.gsm_gen.specs.Networks.{pair_word}
use Rattle.gsm_gen.proofs.NetworkFacts.{arcs_more}
use Rattle.gsm_gen.proofs.arcs.draw_pairs.Goals as goal

pub pairs-preserved : goal.pairs-preserved
pairs-preserved c = record {
  ends = c.in_ok-add_pair.ensures.ends;
  so_far = λ seed has tree.
      let stages = c.args.stages.now in
      let e = c.pairs.e in
      let at = pair_word stages e in
      let before = c.pairs.invariant.so_far seed has tree in
      let first = c.draw-first.ensures.value seed at before.1 ∙ ap (drawn seed at) c.requires.count in
      let behind = c.draw-first.ensures.next seed at before.1 in
      let second = c.draw-second.ensures.value seed (at + 1) behind ∙ ap (drawn seed (at + 1)) c.requires.count in
      let taken = c.draw-second.ensures.next seed (at + 1) behind in
      let next : at + 1 + 1 ≡ pair_word stages (e + 1) = omega arith in
      let added = rw (before.0, first, second) at c.in_ok-add_pair.ensures.arcs in
      (added ∙ sym (arcs_more seed stages e), subst (HasTaken c.draw-second.new.self seed) next taken);
}
