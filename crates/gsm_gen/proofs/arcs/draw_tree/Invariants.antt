use Rattle.std.proofs.Common.{◌≡◌, ℕ, ◌+◌, ◌-◌}
use Rattle.gsm_gen.specs.Draws.{HasTaken}
use Rattle.gsm_gen.specs.Joins.{HasEnds}
use Rattle.gsm_gen.specs.Networks.{tree_word, tree_arcs}
use Rattle.gsm_gen.proofs.arcs.draw_tree.Given as goal

abbrev pub invariant-stages : goal.invariant-stages
invariant-stages l = record {
  ends : HasEnds l.joins;
  so_far : (seed : ℕ) → HasTaken l.initial.draws seed (tree_word l.stages)
      → (l.joins.arcs ≡ tree_arcs seed l.stages (l.k - 1)) × HasTaken l.draws seed (tree_word l.stages + (l.k - 1));
}
