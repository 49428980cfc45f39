use Rattle.std.proofs.Common.{sym, ◌∙◌}
use Rattle.gsm_gen.proofs.NetworkFacts.{arcs_first}
use Rattle.gsm_gen.proofs.arcs.draw_arcs.Goals as goal

pub returns : goal.returns
returns c seed has =
    let tree = c.in_ok-draw_tree.ensures.arcs seed has in
    let taken = c.in_ok-draw_tree.ensures.taken seed has in
    c.in_ok-draw_pairs.ensures seed taken (tree ∙ sym (arcs_first seed c.args.stages.now))
